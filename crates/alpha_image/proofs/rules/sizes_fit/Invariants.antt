use Rattle.std.proofs.Common.{◌≡◌, ◌+◌, take}
use Rattle.std.specs.Prelude.{sum_by}
use Rattle.alpha_image.specs.Rules.{size_of_segment}
use Rattle.alpha_image.proofs.rules.sizes_fit.Given as goal

abbrev pub invariant-loop-s : goal.invariant-loop-s
invariant-loop-s l = sum_by size_of_segment (take l.s-index l.segments) + l.room ≡ 16777216
