use Rattle.std.proofs.Common.{◌≡◌, ◌-◌, ◌<◌, ◌^◌}
use Rattle.alpha_names.specs.Tree.{seek, seek_in, slot_in}
use Rattle.alpha_names.proofs.tree.Tree.seek.Given as goal

abbrev pub invariant-loop-level : goal.invariant-loop-level
invariant-loop-level l = record {
  in_range : l.place < 2 ^ 63;
  same : seek (slot_in l.self) l.mark (20 - l._level) l.path l.place ≡ seek_in (slot_in l.self) l.hash;
}
