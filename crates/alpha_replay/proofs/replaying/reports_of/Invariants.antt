use Rattle.std.proofs.Common.{◌≡◌, ◌≤◌, take}
use Rattle.alpha_replay.specs.Replay.{reports_of}
use Rattle.alpha_replay.proofs.replaying.reports_of.Given as goal

abbrev pub invariant-loop-item : goal.invariant-loop-item
invariant-loop-item l = (l.reports ≡ reports_of (take l.item-index l.items)) × (l.reports ≤ l.item-index)
