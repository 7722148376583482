use Rattle.alpha_fix.proofs.KnownLines.{known_barrier}
use Rattle.alpha_fix.proofs.barriers.barrier.Goals as goal

pub returns : goal.returns
returns c = known_barrier c.of.result c.of.ensures.found
