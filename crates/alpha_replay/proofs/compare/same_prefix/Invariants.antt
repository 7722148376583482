use Rattle.std.proofs.Common.{◌≤◌, ◌-◌, length}
use Rattle.alpha_replay.proofs.OutputComparison.{ComparedPrefix}
use Rattle.alpha_replay.proofs.compare.same_prefix.Given as goal

abbrev pub invariant-loop-count : goal.invariant-loop-count
invariant-loop-count l =
    (l.count ≤ length l.bytes) × (l.count ≤ length l.expected) × ComparedPrefix l.bytes l.expected l.count

abbrev pub decreases-loop-count : goal.decreases-loop-count
decreases-loop-count l = length l.bytes - l.count
