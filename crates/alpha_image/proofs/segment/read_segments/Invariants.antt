use Rattle.std.proofs.Common.{◌≡◌}
use Rattle.alpha_image.specs.Reading.{segments_in}
use Rattle.alpha_image.proofs.segment.read_segments.Given as goal

abbrev pub invariant-loop-n : goal.invariant-loop-n
invariant-loop-n l = l.segments.items ≡ segments_in l.n l.bytes
