use Rattle.std.proofs.Common.{◌≡◌, ◌-◌, ◌^◌, ◌<◌}
use Rattle.alpha_values.proofs.PlaceLemmas.{compared_from}
use Rattle.alpha_values.proofs.bytes.compare_bytes.Given as goal

abbrev pub invariant-loop-k : goal.invariant-loop-k
invariant-loop-k l = (l.answers ≡ compared_from l.a l.b l.k) × (l.answers < 2 ^ (8 - l.k))
