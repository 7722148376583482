use Rattle.std.proofs.Common.{◌≡◌, ◌++◌, take}
use Rattle.std.specs.List.{flat_map}
use Rattle.alpha_image.specs.Layout.{segment_numbers}
use Rattle.alpha_image.proofs.write.push_segments.Given as goal

abbrev pub invariant-loop-segment : goal.invariant-loop-segment
invariant-loop-segment l =
    l.out.items ≡ l.initial.out.items ++ flat_map segment_numbers (take l.segment-index l.segments)
