use Rattle.std.proofs.Common.{length}
use Rattle.alpha_operands.proofs.walk.+follow.Given as goal

abbrev pub decreases-follow : goal.decreases-follow
decreases-follow l = length l.line.now
