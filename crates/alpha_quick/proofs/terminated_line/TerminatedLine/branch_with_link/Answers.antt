use Rattle.std.proofs.Common.{◌∙◌, subst, refl}
use Rattle.alpha_table.specs.declared.names.Mnemonic.TheVariants as mnemonics
use Rattle.alpha_text.specs.SuffixWords.{Says}
use Rattle.alpha_quick.specs.TerminatedLine.{rest_from}
use Rattle.alpha_quick.specs.Words.{HasFirst}
use Rattle.alpha_quick.proofs.LexemeMeanings.{PrefixSays-insn, PrefixSays-reaches, says_link}
use Rattle.alpha_quick.proofs.terminated_line.TerminatedLine.branch_with_link.Goals as goal

pub returns-in_ok-insn : goal.returns-in_ok-insn
returns-in_ok-insn c = λ line first.
    PrefixSays-insn (Says (mnemonics.Branch c.args.op) line) c.without_label.result c.in_ok-insn.insn
    c.without_label.ensures.insn
    c.without_label.ensures.whole
    (c.in_ok-insn.ensures line (subst (λ t. HasFirst line c.args.ra t) (c.if-is_byte_at.ensures.line refl) first))

pub returns-else-is_byte_at : goal.returns-else-is_byte_at
returns-else-is_byte_at c = λ line first.
    let words = rest_from c.args.self.now c.args.i in
    PrefixSays-reaches (Says (mnemonics.Branch c.args.op) line) c.toward_label.result c.branch-op.result words
    c.toward_label.ensures.insn
    c.toward_label.ensures.reaches (c.toward_label.ensures.left ∙ c.rest_from.ensures)
    (rw c.branch-op.ensures (says_link c.args.op c.args.ra line words first))
