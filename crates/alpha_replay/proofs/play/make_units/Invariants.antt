use Rattle.std.proofs.Common.{◌-◌, ◌≤◌, length}
use Rattle.alpha_replay.specs.Listed.{units}
use Rattle.alpha_replay.specs.ReplayEffect.{place, ReplayEffect}
use Rattle.alpha_replay.proofs.play.make_units.Given as goal

abbrev pub invariant-moves : goal.invariant-moves
invariant-moves l = record {
  most : l.left ≤ l.units;
  effect : ReplayEffect l.expected (λ g p. units g (l.units - l.left) p) (place l.fn.wild l.fn.input.left l.from)
      (place l.wild l.input.left l.stand);
  seen : l.stand.seen.at ≤ length l.expected;
}

abbrev pub decreases-moves : goal.decreases-moves
decreases-moves l = l.left
