use Rattle.std.proofs.Common.{◌-◌, ◌<◌, ◌≤◌, length}
use Rattle.alpha_mem.specs.Memory.{IsMemory}
use Rattle.alpha_rows.specs.PassingSteps.{RunsOn}
use Rattle.alpha_rows.proofs.fast.run_fast_from.Given as goal

abbrev pub invariant-words : goal.invariant-words
invariant-words l = record {
  most : l.left ≤ l.units;
  place : l.at ≤ length l.image.words;
  memory : IsMemory l.regions;
  region_hint : l.region_hint < length l.regions;
  runs : RunsOn l.barriers (l.units - l.left) l.image l.initial.regs l.initial.regions l.initial.at l.regs l.regions
      l.at;
}

abbrev pub decreases-words : goal.decreases-words
decreases-words l = l.left
