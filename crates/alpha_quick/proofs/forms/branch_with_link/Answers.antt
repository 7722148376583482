use Rattle.alpha_table.specs.declared.names.Mnemonic.TheVariants as mnemonics
use Rattle.alpha_text.specs.SuffixWords.{Says}
use Rattle.alpha_quick.proofs.LexemeMeanings.{PrefixSays-insn, PrefixSays-reaches, says_link}
use Rattle.alpha_quick.proofs.forms.branch_with_link.Goals as goal

pub returns-in_ok-insn-in-46 : goal.returns-in_ok-insn-in-46
returns-in_ok-insn-in-46 c = λ line first.
    PrefixSays-insn (Says (mnemonics.Branch c.args.op) line) c.without_label.result c.in_ok-insn-in-46.insn
    c.without_label.ensures.insn
    c.without_label.ensures.whole (c.in_ok-insn-in-46.ensures line first)

pub returns-in_default : goal.returns-in_default
returns-in_default c = λ line first.
    PrefixSays-reaches (Says (mnemonics.Branch c.args.op) line) c.toward_label.result c.branch-op.result
    c.args.words.now
    c.toward_label.ensures.insn c.toward_label.ensures.reaches c.toward_label.ensures.left
    (rw c.branch-op.ensures (says_link c.args.op c.args.ra line c.args.words.now first))
