use Rattle.std.proofs.Common.{◌≡◌, ◌*◌, ◌-◌, ◌^◌, ◌<◌}
use Rattle.alpha_values.proofs.PlaceLemmas.{zapped_from}
use Rattle.alpha_values.proofs.bytes.clear.Given as goal

abbrev pub invariant-loop-k : goal.invariant-loop-k
invariant-loop-k l = (l.left ≡ zapped_from l.marks l.a l.k) × (l.left < 2 ^ (8 * (8 - l.k)))
