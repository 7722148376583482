use Rattle.std.proofs.Common.{◌≡◌}
use Rattle.alpha_seq.specs.StartMemory.{memory_before}
use Rattle.alpha_seq.proofs.start.start_memory.Given as goal

abbrev pub invariant-loop-n : goal.invariant-loop-n
invariant-loop-n l = l.memory ≡ memory_before l.image l.n
