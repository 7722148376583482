use Rattle.std.proofs.Common.{pos, ◌∙◌}
use Rattle.alpha_table.specs.declared.names.Mnemonic.TheVariants as mnemonics
use Rattle.alpha_text.specs.SuffixWords.{Says}
use Rattle.alpha_quick.specs.TerminatedLine.{rest_from}
use Rattle.alpha_quick.proofs.LexemeMeanings.{PrefixSays-insn, PrefixSays-reaches, says_half}
use Rattle.alpha_quick.proofs.terminated_line.TerminatedLine.access_prefix.Goals as goal

pub returns-then-is_byte_at : goal.returns-then-is_byte_at
returns-then-is_byte_at c = λ line first.
    let words = rest_from c.args.self.now c.args.i in
    PrefixSays-reaches (Says (mnemonics.Mem c.args.op) line) c.toward_label.result c.memory.result words
    c.toward_label.ensures.insn
    c.toward_label.ensures.reaches (c.toward_label.ensures.left ∙ c.rest_from.ensures)
    (rw c.memory.ensures (says_half c.args.op c.args.ra 31 (pos 0) line words first))

pub returns-in_ok-insn : goal.returns-in_ok-insn
returns-in_ok-insn c = λ line first.
    PrefixSays-insn (Says (mnemonics.Mem c.args.op) line) c.without_label.result c.in_ok-insn.insn
    c.without_label.ensures.insn
    c.without_label.ensures.whole (c.in_ok-insn.ensures line first)
