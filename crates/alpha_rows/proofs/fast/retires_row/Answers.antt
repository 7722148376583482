use Rattle.std.proofs.Common.{ℕ, inr, subst}
use Rattle.alpha_rows.specs.PassingSteps.{PassesRow}
use Rattle.alpha_rows.proofs.fast.retires_row.Goals as goal

-- the row left all as it was, so the barrier stands where it was
pub returns-else-execute-clause-went : goal.returns-else-execute-clause-went
returns-else-execute-clause-went c = λ passed.
    let a = c.args in
    let both = c.pass_barrier.ensures.went passed in
    let f = subst (λ (k : ℕ). PassesRow a.image.now a.regs.now a.regions.now k a.regs.now a.regions.now
    c.pass_barrier.new.place) (c.execute.ensures.place c.if-execute.false) (both.1 a.regs.now a.regions.now) in
    inr (
      both.0,
      record {
        class = f.class;
        below = f.below;
        same_regs = c.execute.ensures.regs c.if-execute.false;
        same_memory = c.execute.ensures.regions c.if-execute.false;
        next = f.next;
      },
    )
