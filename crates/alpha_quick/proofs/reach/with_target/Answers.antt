use Rattle.std.proofs.Common.{refl}
use Rattle.alpha_quick.proofs.reach.with_target.Goals as goal

pub returns : goal.returns
returns c = (c.in_ok-target.target.label.now, c.in_ok-target.target.offset, c.in_ok-target.ensures, refl)
