use Rattle.std.proofs.Common.{pos}
use Rattle.alpha_table.specs.declared.names.Mnemonic.TheVariants as mnemonics
use Rattle.alpha_text.specs.SuffixWords.{Says}
use Rattle.alpha_quick.proofs.LexemeMeanings.{PrefixSays-insn, PrefixSays-reaches, says_half}
use Rattle.alpha_quick.proofs.forms.access_prefix.Goals as goal

pub returns-in-37 : goal.returns-in-37
returns-in-37 c = λ line first.
    PrefixSays-reaches (Says (mnemonics.Mem c.args.op) line) c.toward_label.result c.memory.result c.args.words.now
    c.toward_label.ensures.insn
    c.toward_label.ensures.reaches c.toward_label.ensures.left
    (rw c.memory.ensures (says_half c.args.op c.args.ra 31 (pos 0) line c.args.words.now first))

pub returns-in_ok-insn-in-40 : goal.returns-in_ok-insn-in-40
returns-in_ok-insn-in-40 c = λ line first.
    PrefixSays-insn (Says (mnemonics.Mem c.args.op) line) c.without_label.result c.in_ok-insn-in-40.insn
    c.without_label.ensures.insn
    c.without_label.ensures.whole (c.in_ok-insn-in-40.ensures line first)

pub returns-in_ok-insn-in_default : goal.returns-in_ok-insn-in_default
returns-in_ok-insn-in_default c = λ line first.
    PrefixSays-insn (Says (mnemonics.Mem c.args.op) line) c.without_label-in_default.result c.in_ok-insn-in_default.insn
    c.without_label-in_default.ensures.insn c.without_label-in_default.ensures.whole
    (c.in_ok-insn-in_default.ensures line first)
