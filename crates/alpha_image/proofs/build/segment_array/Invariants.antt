use Rattle.std.proofs.Common.{◌≡◌, take}
use Rattle.alpha_image.proofs.build.segment_array.Given as goal

abbrev pub invariant-loop-segment : goal.invariant-loop-segment
invariant-loop-segment l = l.few.items ≡ take l.segment-index l.segments
