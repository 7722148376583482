use Rattle.std.proofs.Common.{ap, sym, subst, ◌∙◌, arith}
use Rattle.alpha_table.specs.declared.insn.InsnRow.{InsnRow}
use Rattle.alpha_table.specs.Insn.{Decodes, form_in}
use Rattle.alpha_table.proofs.InsnForms.{IsKnown-decoded, Row-Decodes, same_form}
use Rattle.alpha_table.proofs.insn.Insn.new.Goals as goal

pub invariant_of-result : goal.invariant_of-result
invariant_of-result c =
    IsKnown-decoded (record { row = c.row_of.result; word = record { 0 = c.word_of.result } }) (omega arith)
    (subst (λ (r : InsnRow). Decodes r c.word_of.result) (sym c.row_of.ensures)
    (Row-Decodes c.word_of.result c.args.form c.word_of.ensures))

pub returns : goal.returns
returns c =
    ap (λ (r : InsnRow). form_in r c.word_of.result) c.row_of.ensures
    ∙ same_form c.word_of.result c.args.form c.word_of.ensures
