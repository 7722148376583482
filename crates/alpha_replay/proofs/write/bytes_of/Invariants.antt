use Rattle.std.proofs.Common.{◌*◌, ◌≤◌}
use Rattle.alpha_replay.proofs.write.bytes_of.Given as goal

abbrev pub invariant-loop-item : goal.invariant-loop-item
invariant-loop-item l = l.bytes ≤ 10 * l.item-index
