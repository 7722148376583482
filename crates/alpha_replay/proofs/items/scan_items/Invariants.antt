use Rattle.std.proofs.Common.{◌≡◌, ◌*◌, ◌≤◌, List}
use Rattle.alpha_replay.specs.declared.item.Item.{Item}
use Rattle.alpha_replay.specs.Items.{units_of}
use Rattle.alpha_replay.proofs.ItemRows.{Reading}
use Rattle.alpha_replay.proofs.items.scan_items.Given as goal

abbrev pub invariant-loop-n : goal.invariant-loop-n
invariant-loop-n l =
    (items : List Item) × Reading l.count l.bytes l.n l.at l.behind items × (l.units ≡ units_of items)
    × (l.units ≤ 4294967295 * l.n)
