use Rattle.std.proofs.Common.{◌-◌, ◌≤◌}
use Rattle.alpha_seq.specs.FastSteps.{RunsFast}
use Rattle.alpha_seq.proofs.fast.run_fast_from.Given as goal

abbrev pub invariant-words : goal.invariant-words
invariant-words l = record {
  most : l.left ≤ l.units;
  runs_fast : RunsFast (l.units - l.left) l.image l.initial.regs l.initial.memory l.initial.place l.regs l.memory
      l.place;
}

abbrev pub decreases-words : goal.decreases-words
decreases-words l = l.left
