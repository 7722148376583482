use Rattle.std.proofs.Common.{ℕ, sym, subst}
use Rattle.alpha_rows.specs.Rows.{ExecutesRow}
use Rattle.alpha_rows.proofs.RowLaws.{ExecutesRow-branch_always}
use Rattle.alpha_rows.proofs.effects.branch_always.Goals as goal

pub returns-clause-went : goal.returns-clause-went
returns-clause-went c = λ mem.
    let a = c.args in
    subst (λ (n : ℕ). ExecutesRow a.image.now a.regs.now mem a.place.now a.regs.now mem n) (sym c.from.ensures)
    (ExecutesRow-branch_always a.image.now a.regs.now mem a.place.now a.row.now c.requires.good c.requires.row
    c.requires.meaning)
