use Rattle.std.proofs.Common.{refl}
use Rattle.alpha_asm.specs.Statement.{cells}
use Rattle.alpha_fix.proofs.barriers.role_of.Goals as goal

pub returns-in-Err : goal.returns-in-Err
unfolding cells
returns-in-Err c = rw c.in-Err.ensures.value refl
