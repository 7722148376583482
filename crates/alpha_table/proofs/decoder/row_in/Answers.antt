use Rattle.std.proofs.Common.{sym, subst, arith}
use Rattle.std.specs.Prelude.{slice_index_or, IsTrue, [], ℕ}
use Rattle.alpha_table.specs.Insn.{matches_row}
use Rattle.alpha_table.proofs.OpcodeTables.{tables-row_at}
use Rattle.alpha_table.proofs.decoder.row_in.Goals as goal

pub returns : goal.returns
returns c =
    subst (λ (i : ℕ). IsTrue (matches_row c.args.opcode c.args.function
    (slice_index_or (slice_index_or c.args.rows.now i []) c.from-2.result _)))
    (sym c.from.ensures)
    (subst (λ (j : ℕ). IsTrue (matches_row c.args.opcode c.args.function
    (slice_index_or (slice_index_or c.args.rows.now c.args.opcode []) j _)))
    (sym c.from-2.ensures)
    (tables-row_at c.args.rows.now 0 c.args.opcode c.args.function c.args.opcode _ c.requires.rows c.requires.within.0
    c.requires.within.1 (omega arith)))
