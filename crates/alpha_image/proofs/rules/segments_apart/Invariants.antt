use Rattle.std.proofs.Common.{◌≡◌, ◌≤◌, ◌^◌, map, drop}
use Rattle.alpha_image.specs.FieldTests.{all_apart, segment_region}
use Rattle.alpha_image.proofs.SegmentsApart.{are_above}
use Rattle.alpha_image.proofs.rules.segments_apart.Given as goal

abbrev pub invariant-loop-s : goal.invariant-loop-s
invariant-loop-s l = record {
  bound : l.end ≤ 2 ^ 30;
  same : all_apart (map segment_region l.segments) ≡ are_above l.end (drop l.s-index l.segments);
}
