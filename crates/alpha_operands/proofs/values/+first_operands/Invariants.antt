use Rattle.std.proofs.Common.{length}
use Rattle.alpha_operands.proofs.values.+first_operands.Given as goal

abbrev pub decreases-first_operands : goal.decreases-first_operands
decreases-first_operands l = length l.list.now
