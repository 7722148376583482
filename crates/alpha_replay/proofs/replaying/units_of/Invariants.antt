use Rattle.std.proofs.Common.{◌≡◌, ◌≤◌, ◌*◌, take}
use Rattle.alpha_replay.specs.Items.{units_of}
use Rattle.alpha_replay.proofs.replaying.units_of.Given as goal

abbrev pub invariant-loop-item : goal.invariant-loop-item
invariant-loop-item l = (l.units ≡ units_of (take l.item-index l.items)) × (l.units ≤ 4294967295 * l.item-index)
