use Rattle.alpha_table.specs.declared.names.Mnemonic.TheVariants as mnemonics
use Rattle.alpha_text.specs.SuffixWords.{Says}
use Rattle.alpha_quick.proofs.LexemeMeanings.{PrefixSays-reaches, is_call, says_call}
use Rattle.alpha_quick.proofs.forms.branch_without_link.Goals as goal

pub returns-in-Br : goal.returns-in-Br
returns-in-Br c =
    PrefixSays-reaches (Says (mnemonics.Branch c.args.op) c.args.words.now) c.toward_label.result c.branch-op.result
    c.args.words.now
    c.toward_label.ensures.insn c.toward_label.ensures.reaches c.toward_label.ensures.left
    (rw c.branch-op.ensures
    (says_call c.args.op c.link-ra.result c.args.words.now (is_call c.args.op c.in-Br.is) c.link-ra.ensures))
