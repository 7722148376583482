-- Lists of segments: how many data bytes they have, and their numbers in bytes.
use Rattle.std.proofs.Common.{◌≡◌, ℕ, zero, suc, ◌+◌, ◌*◌, ◌≤◌, List, [], ◌∷◌, ◌++◌, length, take, drop, refl, ap, ◌∙◌}
use Rattle.std.proofs.Common.{arith}
use Rattle.std.specs.Prelude.{sum_by}
use Rattle.std.proofs.lemmas.List.{drop-drop}
use Rattle.std.proofs.lemmas.List.Sums.{sum_by-le-sum_by, sum_by-take-le}
use Rattle.alpha_image.specs.declared.segment.Segment.{Segment}
use Rattle.alpha_image.specs.Numbers.{Numbers}
use Rattle.alpha_image.specs.Layout.{filled_size}
use Rattle.alpha_image.specs.Reading.{segment_in, segments_in}
use Rattle.alpha_image.specs.Rules.{FieldsFit, size_of_segment}

pub filled_size-le : (segments : List Segment) → filled_size segments ≤ sum_by size_of_segment segments
filled_size-le segments = sum_by-le-sum_by (λ (s : Segment). s.filled) size_of_segment segments (λ s. omega arith)

pub filled_size-fits : (n : Numbers) → FieldsFit n → filled_size n.segments ≤ 16777216
filled_size-fits n fit = omega (arith, filled_size-le n.segments, fit.zeroed.0)

pub filled_size-take : (segments : List Segment) (n : ℕ) → filled_size (take n segments) ≤ filled_size segments
filled_size-take segments n = sum_by-take-le (λ (s : Segment). s.filled) segments n

pub length-segments_in : (n : ℕ) (bytes : List ℕ) → length (segments_in n bytes) ≡ n
length-segments_in zero bytes = refl
length-segments_in (suc n) bytes = ap suc (length-segments_in n (drop 16 bytes))

-- one segment more
pub segments_in-more : (n : ℕ) (bytes : List ℕ)
    → segments_in (n + 1) bytes ≡ segments_in n bytes ++ segment_in (drop (16 * n) bytes) ∷ []
segments_in-more zero bytes = refl
segments_in-more (suc n) bytes =
    let next : suc n + 1 ≡ suc (n + 1) = omega arith in
    let behind : 16 + 16 * n ≡ 16 * suc n = omega arith in
    let at : drop (16 * n) (drop 16 bytes) ≡ drop (16 * suc n) bytes =
    drop-drop (16 * n) 16 bytes ∙ ap (λ (k : ℕ). drop k bytes) behind in
    rw next
    (ap (λ (t : List Segment). segment_in bytes ∷ t) (segments_in-more n (drop 16 bytes))
    ∙ ap (λ (t : List ℕ). segment_in bytes ∷ (segments_in n (drop 16 bytes) ++ segment_in t ∷ [])) at)
