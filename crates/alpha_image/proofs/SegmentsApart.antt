-- Segments whose bases rise share no address where each begins behind the end of all before it.
use Rattle.std.proofs.Common.{◌≡◌, ℕ, suc, ◌+◌, ◌-◌, ◌<◌, ◌≤◌, Bool, true, false, IsTrue, ◌&&◌, ◌||◌, ◌⊎◌, eqb, leb}
use Rattle.std.proofs.Common.{List, [], ◌∷◌, length, map, get_or, drop, take, inl, inr, refl, sym, ap, subst, ◌∙◌}
use Rattle.std.proofs.Common.{add-one, arith}
use Rattle.std.specs.Prelude.{max}
use Rattle.std.specs.List.{All, list_all}
use Rattle.std.proofs.lemmas.Bool.{cases_lt}
use Rattle.std.proofs.lemmas.Bool.Decides.{nat_tests}
use Rattle.std.proofs.lemmas.List.{get_or-map, get_or-drop, length-drop}
use Rattle.std.proofs.lemmas.List.Elements.{All-head, All-tail}
use Rattle.std.proofs.lemmas.List.Sums.{list_all-from_AllPass}
use Rattle.std.proofs.lemmas.List.Kept.{AllPairs-from_increasing}
use Rattle.std.proofs.Math.Seq.{drop-cons}
use Rattle.std.proofs.lemmas.List.{length-map, take_all}
use Rattle.std.proofs.lemmas.List.Folds.{list_all-map, list_all_at}
use Rattle.alpha_image.specs.declared.region.Region.{Region}
use Rattle.alpha_image.specs.declared.segment.Segment.{Segment}
use Rattle.alpha_image.specs.Rules.{size_of_segment}
use Rattle.alpha_image.specs.FieldTests.{are_apart, all_apart, rise, segment_region}
use Rattle.alpha_image.proofs.FieldRules.{rise-increasing, falls-rise}

-- what the code reads where there is no segment
abbrev pub empty_segment : Segment
empty_segment = record { base = 0; filled = 0; zeroed = 0 }

-- the segment begins there or above, or is empty
abbrev pub begins_above : ℕ → Segment → Bool
begins_above end s = eqb (size_of_segment s) 0 || leb end s.base

-- segments that begin behind an end, and share no address
abbrev pub are_above : ℕ → List Segment → Bool
are_above end segments = list_all (begins_above end) segments && all_apart (map segment_region segments)

pub are_above-zero : (segments : List Segment) → are_above 0 segments ≡ all_apart (map segment_region segments)
are_above-zero segments =
    let all : list_all (begins_above 0) segments ≡ true =
    list_all-from_AllPass (begins_above 0) segments (λ k d h. grind (arith, nat_tests)) in
    rw all refl

clears_both : (end : ℕ) (s t : Segment) → s.base < t.base
    → (begins_above end t && are_apart (segment_region s) (segment_region t))
    ≡ begins_above (max end (s.base + size_of_segment s)) t
unfolding are_apart
clears_both end s t above = grind (arith, nat_tests)

and-exchanged : (a b x y : Bool) → ((a && x) && (b && y)) ≡ ((a && b) && (x && y))
and-exchanged true true x y = refl
and-exchanged true false true y = refl
and-exchanged true false false y = refl
and-exchanged false b x y = refl

all_clear : (end : ℕ) (s : Segment) (rest : List Segment) → All (λ t. s.base < t.base) rest
    → (list_all (begins_above end) rest && list_all (are_apart (segment_region s)) (map segment_region rest))
    ≡ list_all (begins_above (max end (s.base + size_of_segment s))) rest
all_clear end s [] above = refl
all_clear end s (t ∷ rest) above =
    and-exchanged (begins_above end t) (are_apart (segment_region s) (segment_region t))
    (list_all (begins_above end) rest)
    (list_all (are_apart (segment_region s)) (map segment_region rest))
    ∙ (ap (λ (b : Bool). b
    && (list_all (begins_above end) rest && list_all (are_apart (segment_region s)) (map segment_region rest)))
    (clears_both end s t (All-head (λ (t : Segment). s.base < t.base) t rest above))
    ∙ ap (λ (b : Bool). begins_above (max end (s.base + size_of_segment s)) t && b)
    (all_clear end s rest (All-tail (λ (t : Segment). s.base < t.base) t rest above)))

and_assoc : (a b c : Bool) → (a && (b && c)) ≡ ((a && b) && c)
and_assoc true b c = refl
and_assoc false b c = refl

-- one segment on
are_above-cons : (end : ℕ) (s : Segment) (rest : List Segment) → All (λ t. s.base < t.base) rest
    → begins_above end s ≡ true
    → are_above end (s ∷ rest) ≡ are_above (max end (s.base + size_of_segment s)) rest
are_above-cons end s rest above clear =
    rw clear
    (and_assoc (list_all (begins_above end) rest) (list_all (are_apart (segment_region s)) (map segment_region rest))
    (all_apart (map segment_region rest))
    ∙ ap (λ (b : Bool). b && all_apart (map segment_region rest)) (all_clear end s rest above))

-- the bases behind a segment are above its own
pub bases_above : (segments : List Segment) (i : ℕ) (d : Segment) → IsTrue (rise (map (λ s. s.base) segments))
    → i < length segments → All (λ t. (get_or segments i d).base < t.base) (drop (suc i) segments)
bases_above segments i d up within k e h =
    let bases = map (λ (s : Segment). s.base) segments in
    let inside : suc i + k < length segments = omega (arith, h, length-drop (suc i) segments) in
    let pairs = AllPairs-from_increasing bases (rise-increasing bases up) in
    let below : get_or bases i 0 < get_or bases (suc i + k) 0 =
    pairs i (suc i + k) 0 (omega arith) (omega (arith, length-map segments (λ (s : Segment). s.base))) in
    let one = get_or-map (λ (s : Segment). s.base) segments i d 0 within in
    let two = get_or-map (λ (s : Segment). s.base) segments (suc i + k) e 0 inside in
    let at : get_or (drop (suc i) segments) k e ≡ get_or segments (suc i + k) e = get_or-drop (suc i) segments k e in
    rw at (rw (one, two) at below)

-- the step of the loop over segments
pub follow_more : (segments : List Segment) (i end end' : ℕ) (d : Segment) → IsTrue (rise (map (λ s. s.base) segments))
    → i < length segments
    → (size_of_segment (get_or segments i d) ≡ 0) ⊎ (end ≤ (get_or segments i d).base)
    → end' ≡ max end ((get_or segments i d).base + size_of_segment (get_or segments i d))
    → are_above end (drop i segments) ≡ are_above end' (drop (i + 1) segments)
follow_more segments i end end' d up within clear e =
    let s = get_or segments i d in
    let clears : begins_above end s ≡ true = grind (arith, nat_tests) in
    rw (drop-cons segments i d within, add-one, e)
    (are_above-cons end s (drop (suc i) segments) (bases_above segments i d up within) clears)

-- a region that meets a segment
pub meets_one : (r : Region) (segments : List Segment) (i : ℕ) (d : Segment)
    → i < length segments → are_apart r (segment_region (get_or segments i d)) ≡ false
    → list_all (are_apart r) (map segment_region segments) ≡ false
meets_one r segments i d within e =
    list_all-map (are_apart r) segment_region segments
    ∙ list_all_at (λ (s : Segment). are_apart r (segment_region s)) segments i d within e

-- a region that meets none
pub meets_none : (r : Region) (segments : List Segment) (i : ℕ) → length segments ≤ i
    → list_all (λ s. are_apart r (segment_region s)) (take i segments) ≡ true
    → list_all (are_apart r) (map segment_region segments) ≡ true
meets_none r segments i past e =
    list_all-map (are_apart r) segment_region segments
    ∙ (ap (λ (t : List Segment). list_all (λ s. are_apart r (segment_region s)) t) (sym (take_all i segments past)) ∙ e)

abbrev segment_bases : List Segment → List ℕ
segment_bases segments = map (λ s. s.base) segments

base_at : (segments : List Segment) (n : ℕ) → n < length segments
    → get_or (segment_bases segments) n 0 ≡ (get_or segments n empty_segment).base
base_at segments n within = get_or-map (λ (s : Segment). s.base) segments n empty_segment 0 within

-- a base that is not above the one before it
pub rise-not_falling : (segments : List Segment) (n : ℕ) → 1 ≤ n → n < length segments
    → (get_or segments n empty_segment).base ≤ (get_or segments (n - 1) empty_segment).base
    → rise (segment_bases segments) ≡ false
rise-not_falling segments n some within h =
    let next : n - 1 + 1 ≡ n = omega arith in
    falls-rise (segment_bases segments) (n - 1) (omega (arith, length-map segments (λ (s : Segment). s.base)))
    (rw (next, base_at segments n within, base_at segments (n - 1) (omega arith)) h)

-- one base more that is above the one before it
pub rises_more : (segments : List Segment) (n : ℕ) → 1 ≤ n → n < length segments
    → ((k : ℕ) → k + 1 < n → get_or (segment_bases segments) k 0 < get_or (segment_bases segments) (k + 1) 0)
    → (get_or segments (n - 1) empty_segment).base < (get_or segments n empty_segment).base
    → (k : ℕ) → k + 1 < n + 1 → get_or (segment_bases segments) k 0 < get_or (segment_bases segments) (k + 1) 0
rises_more segments n some within so_far h k below =
    elim (cases_lt (k + 1) n) [
      | inl lt ↦ so_far k lt
      | inr le ↦
          let last : n - 1 ≡ k = omega arith in
          let next : n ≡ k + 1 = omega arith in
          rw (base_at segments k (omega arith), base_at segments (k + 1) (omega arith))
          (subst (λ (i : ℕ). (get_or segments k empty_segment).base < (get_or segments i empty_segment).base) next
          (subst (λ (i : ℕ). (get_or segments i empty_segment).base < (get_or segments n empty_segment).base) last h))
    ]
