use Rattle.std.proofs.Common.{◌≡◌, true, take}
use Rattle.std.specs.List.{list_all}
use Rattle.alpha_image.specs.FieldTests.{are_apart, segment_region}
use Rattle.alpha_image.proofs.rules.are_all_apart.Given as goal

abbrev pub invariant-loop-s : goal.invariant-loop-s
invariant-loop-s l = list_all (λ s. are_apart l.region (segment_region s)) (take l.s-index l.segments) ≡ true
