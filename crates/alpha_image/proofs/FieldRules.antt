-- The tests of the fields decide their rules.
use Rattle.std.proofs.Common.{◌≡◌, ℕ, zero, suc, ◌+◌, ◌-◌, ◌*◌, ◌^◌, ◌<◌, ◌≤◌, ◌↔◌, ◌⊎◌, Bool, true, false, IsTrue}
use Rattle.std.proofs.Common.{List, [], ◌∷◌, length, map, get_or, Option, Some, None, refl, sym, ap, subst, ◌∙◌, inl}
use Rattle.std.proofs.Common.{inr, ⊎_elim, arith}
use Rattle.std.specs.Prelude.{nat_le, sum_by}
use Rattle.std.specs.List.{All, AllPairs, list_all}
use Rattle.std.specs.List.Sorted.{IsStrictlyIncreasing}
use Rattle.std.specs.Option.{option_or}
use Rattle.std.proofs.lemmas.Bool.{cases_eq, cases_lt, lt-ltb}
use Rattle.std.proofs.lemmas.Bool.Decides.{nat_tests, Decides-and}
use Rattle.std.proofs.lemmas.List.{get_or-map, length-map}
use Rattle.std.proofs.lemmas.List.Sums.{AllPass-from_list_all, list_all-from_AllPass}
use Rattle.std.proofs.lemmas.List.Kept.{AllPairs-cons}
use Rattle.alpha_image.specs.declared.region.Region.{Region}
use Rattle.alpha_image.specs.declared.segment.Segment.{Segment}
use Rattle.alpha_image.specs.Numbers.{Numbers}
use Rattle.alpha_image.specs.Rules.{AreApart, regions, size_of_segment, IsBase, FieldsFit}
use Rattle.alpha_image.specs.TestsDecide.{DataBasesFit, CodeWordsFit, DataBytesFit, ZeroedBytesFit, StackBytesFit}
use Rattle.alpha_image.specs.TestsDecide.{EntryFits, RegionsFit, LevelFits, SegmentsFit, TestsDecide}
use Rattle.alpha_image.specs.FieldTests.{is_base, rise, data_bases_fit, code_words_fit, data_bytes_fit}
use Rattle.alpha_image.specs.FieldTests.{zeroed_bytes_fit, stack_bytes_fit, entry_fits, are_apart, all_apart}
use Rattle.alpha_image.specs.FieldTests.{compared_regions, segment_region, stack_region, regions_fit, level_fits}
use Rattle.alpha_image.specs.FieldTests.{segments_fit, least_bad_field}
use Rattle.alpha_image.specs.FirstOf.{unless}

is_base_decides : (base : ℕ) → IsTrue (is_base base) ↔ IsBase base
unfolding is_base
is_base_decides base = (λ t. grind (arith, nat_tests), λ r. grind (arith, nat_tests))

-- a test of each element decides a fact of each
list_all_decides : {X : Type 0} (p : X → Bool) (P : X → Type 0) → ((x : X) → IsTrue (p x) ↔ P x) → (xs : List X)
    → IsTrue (list_all p xs) ↔ All P xs
list_all_decides p P d xs = (
  λ t k e h. (d (get_or xs k e)).0 (AllPass-from_list_all p xs t k e h),
  λ all. list_all-from_AllPass p xs (λ k e h. (d (get_or xs k e)).1 (all k e h)),
)

pub rise-increasing : (xs : List ℕ) → IsTrue (rise xs) → IsStrictlyIncreasing xs
rise-increasing [] t k h = absurd (omega arith)
rise-increasing (a ∷ []) t k h = absurd (omega arith)
rise-increasing (a ∷ b ∷ rest) t zero h = grind (arith, nat_tests)
rise-increasing (a ∷ b ∷ rest) t (suc k) h =
    let later : IsTrue (rise (b ∷ rest)) = grind (arith, nat_tests) in
    let next : suc k + 1 ≡ suc (k + 1) = omega arith in
    rw next (rise-increasing (b ∷ rest) later k (omega arith))

cases_bool : (b : Bool) → (b ≡ true) ⊎ (b ≡ false)
cases_bool true = inl refl
cases_bool false = inr refl

-- a base that is not above the one before it
pub falls-rise : (xs : List ℕ) (k : ℕ) → k + 1 < length xs → get_or xs (k + 1) 0 ≤ get_or xs k 0 → rise xs ≡ false
falls-rise xs k within falls =
    elim (cases_bool (rise xs)) [
      | inl t ↦ absurd (omega (arith, rise-increasing xs t k within))
      | inr f ↦ f
    ]

pub increasing-rise : (xs : List ℕ) → IsStrictlyIncreasing xs → IsTrue (rise xs)
increasing-rise [] up = refl
increasing-rise (a ∷ []) up = refl
increasing-rise (a ∷ b ∷ rest) up =
    let first : a < b = up 0 (omega arith) in
    let next : (k : ℕ) → suc k + 1 ≡ suc (k + 1) = λ k. omega arith in
    let later : IsStrictlyIncreasing (b ∷ rest) = λ k h. rw (next k) at (up (suc k) (omega arith)) in
    rw (lt-ltb a b first) (increasing-rise (b ∷ rest) later)

data_bases_decide : (n : Numbers) → IsTrue (data_bases_fit n.segments) ↔ DataBasesFit n
unfolding data_bases_fit
data_bases_decide n =
    Decides-and (list_all (λ s. is_base s.base) n.segments) (rise (map (λ s. s.base) n.segments))
    (list_all_decides (λ (s : Segment). is_base s.base) (λ s. IsBase s.base) (λ s. is_base_decides s.base) n.segments)
    (rise-increasing (map (λ s. s.base) n.segments), increasing-rise (map (λ s. s.base) n.segments))

code_words_decide : (n : Numbers) → IsTrue (code_words_fit n.code_base n.words) ↔ CodeWordsFit n
unfolding code_words_fit
code_words_decide n = (λ t. grind (arith, nat_tests), λ r. grind (arith, nat_tests))

at_most_decides : (a b : ℕ) → IsTrue (nat_le a b) ↔ (a ≤ b)
at_most_decides a b = (λ t. grind (arith, nat_tests), λ r. grind (arith, nat_tests))

data_bytes_decide : (n : Numbers) → IsTrue (data_bytes_fit n.segments) ↔ DataBytesFit n
unfolding data_bytes_fit
data_bytes_decide n =
    list_all_decides (λ (s : Segment). nat_le s.filled 16777216) (λ s. s.filled ≤ 16777216)
    (λ s. at_most_decides s.filled 16777216) n.segments

ends_decide : (segments : List Segment)
    → IsTrue (list_all (λ s. nat_le (s.base + size_of_segment s) (2 ^ 30)) segments)
    ↔ All (λ s. s.base + size_of_segment s ≤ 2 ^ 30) segments
ends_decide segments =
    list_all_decides (λ (s : Segment). nat_le (s.base + size_of_segment s) (2 ^ 30))
    (λ s. s.base + size_of_segment s ≤ 2 ^ 30)
    (λ s. at_most_decides (s.base + size_of_segment s) (2 ^ 30)) segments

zeroed_bytes_decide : (n : Numbers) → IsTrue (zeroed_bytes_fit n.segments) ↔ ZeroedBytesFit n
unfolding zeroed_bytes_fit
zeroed_bytes_decide n =
    Decides-and (nat_le (sum_by size_of_segment n.segments) 16777216)
    (list_all (λ s. nat_le (s.base + size_of_segment s) (2 ^ 30)) n.segments)
    (at_most_decides (sum_by size_of_segment n.segments) 16777216) (ends_decide n.segments)

stack_bytes_decide : (n : Numbers) → IsTrue (stack_bytes_fit n.stack) ↔ StackBytesFit n
unfolding stack_bytes_fit
stack_bytes_decide n = (λ t. grind (arith, nat_tests), λ r. grind (arith, nat_tests))

entry_decides : (n : Numbers) → IsTrue (entry_fits n.code_base n.words n.entry) ↔ EntryFits n
unfolding entry_fits
entry_decides n = (λ t. grind (arith, nat_tests), λ r. grind (arith, nat_tests))

level_decides : (n : Numbers) → IsTrue (level_fits n.level) ↔ LevelFits n
unfolding level_fits
level_decides n = (λ t. grind (arith, nat_tests), λ r. grind (arith, nat_tests))

segments_decide : (n : Numbers) → IsTrue (segments_fit n.segments) ↔ SegmentsFit n
unfolding segments_fit
segments_decide n = at_most_decides (length n.segments) 8

-- one region is empty, or they follow each other
Follows : Region → Region → Type 0
Follows r s = ((r.size ≡ 0) ⊎ (s.size ≡ 0)) ⊎ ((r.base + r.size ≤ s.base) ⊎ (s.base + s.size ≤ r.base))

follows_decides : (r s : Region) → IsTrue (are_apart r s) ↔ Follows r s
unfolding are_apart Follows
follows_decides r s = (λ t. grind (arith, nat_tests), λ f. grind (arith, nat_tests))

-- no address is in both regions
abbrev RegionsApart : Region → Region → Type 0
RegionsApart r s =
    (address : ℕ) → (r.base ≤ address) × (address < r.base + r.size) → (s.base ≤ address) × (address < s.base + s.size)
    → ⊥

apart_decides : (r s : Region) → IsTrue (are_apart r s) ↔ RegionsApart r s
unfolding Follows
apart_decides r s = (
  λ t address a b.
      let f : Follows r s = (follows_decides r s).0 t in
      ⊎_elim (λ p. ⊎_elim (λ (q : r.size ≡ 0). omega arith) (λ (q : s.size ≡ 0). omega arith) p)
      (λ p. ⊎_elim (λ (q : r.base + r.size ≤ s.base). omega arith) (λ (q : s.base + s.size ≤ r.base). omega arith) p) f,
  λ apart. (follows_decides r s).1 (
      elim (cases_eq r.size 0) [
        | inl p ↦ inl (inl p)
        | inr p ↦ elim (cases_eq s.size 0) [
          | inl q ↦ inl (inr q)
          | inr q ↦ elim (cases_lt s.base (r.base + r.size)) [
            | inr u ↦ inr (inl u)
            | inl u ↦ elim (cases_lt r.base (s.base + s.size)) [
              | inr v ↦ inr (inr v)
              | inl v ↦ elim (cases_lt r.base s.base) [
                | inl w ↦ absurd (apart s.base (omega arith, omega arith) (omega arith, omega arith))
                | inr w ↦ absurd (apart r.base (omega arith, omega arith) (omega arith, omega arith))
              ]
            ]
          ]
        ]
      ]),
)

all_apart_decides : (rs : List Region) → IsTrue (all_apart rs) ↔ AllPairs RegionsApart rs
all_apart_decides [] = (λ t i j d h l. absurd (omega arith), λ pairs. refl)
all_apart_decides (r ∷ rs) =
    let first = list_all_decides (are_apart r) (RegionsApart r) (apart_decides r) rs in
    let both = Decides-and (list_all (are_apart r) rs) (all_apart rs) first (all_apart_decides rs) in (
      λ t. let f = both.0 t in AllPairs-cons RegionsApart r rs f.0 f.1,
      λ pairs. both.1 (
        λ k d h. pairs 0 (suc k) d (omega arith) (omega arith),
        λ i j d h l. pairs (suc i) (suc j) d (omega arith) (omega arith),
      ),
    )

-- the regions that the tests compare are those of the rule's segments
abbrev region : ℕ → ℕ → Region
region base size = record { base = base; size = size }

same_regions : (n : Numbers) → compared_regions n ≡ map segment_region (regions n)
same_regions n =
    let code : 4 * n.words ≡ 4 * n.words + 0 = omega arith in
    let stack : n.stack ≡ 0 + n.stack = omega arith in
    ap (λ (size : ℕ). region n.code_base size ∷ stack_region n ∷ map segment_region n.segments) code
    ∙ ap (λ (size : ℕ). region n.code_base (4 * n.words + 0)
    ∷ region (2 ^ 30 - n.stack) size ∷ map segment_region n.segments)
    stack

segments_apart : (segments : List Segment)
    → AllPairs RegionsApart (map segment_region segments) ↔ AllPairs AreApart segments
segments_apart segments = (
  λ pairs i j d order below.
      let both = pairs i j (segment_region d) order (omega (arith, length-map segments segment_region)) in
      rw (
        get_or-map segment_region segments i d (segment_region d) (omega arith),
        get_or-map segment_region segments j d (segment_region d) below,
      ) at both,
  λ pairs i j d order below.
      let inside : j < length segments = omega (arith, length-map segments segment_region) in
      let nowhere : Segment = record { base = 0; filled = 0; zeroed = 0 } in
      rw (
        get_or-map segment_region segments i nowhere d (omega arith),
        get_or-map segment_region segments j nowhere d inside,
      ) (pairs i j nowhere order inside),
)

regions_decide : (n : Numbers) → IsTrue (regions_fit n) ↔ RegionsFit n
unfolding regions_fit
regions_decide n =
    let tests = all_apart_decides (compared_regions n) in
    let rules = segments_apart (regions n) in (
      λ t. rules.0 (subst (AllPairs RegionsApart) (same_regions n) (tests.0 t)),
      λ apart. tests.1 (subst (AllPairs RegionsApart) (sym (same_regions n)) (rules.1 apart)),
    )

pub tests_decide : (n : Numbers) → TestsDecide n
tests_decide n = record {
  code_base = is_base_decides n.code_base;
  data_bases = data_bases_decide n;
  words = code_words_decide n;
  filled = data_bytes_decide n;
  zeroed = zeroed_bytes_decide n;
  stack = stack_bytes_decide n;
  entry = entry_decides n;
  regions = regions_decide n;
  level = level_decides n;
  segments = segments_decide n;
}

-- numbers that pass each test
pub FieldsFit-tests : (n : Numbers) → IsTrue (is_base n.code_base) → IsTrue (data_bases_fit n.segments)
    → IsTrue (code_words_fit n.code_base n.words) → IsTrue (data_bytes_fit n.segments)
    → IsTrue (zeroed_bytes_fit n.segments) → IsTrue (stack_bytes_fit n.stack)
    → IsTrue (entry_fits n.code_base n.words n.entry) → IsTrue (regions_fit n) → IsTrue (level_fits n.level)
    → IsTrue (segments_fit n.segments) → FieldsFit n
FieldsFit-tests n a b c d e f g h i j =
    let t = tests_decide n in
    record {
      code_base = t.code_base.0 a;
      data_bases = t.data_bases.0 b;
      words = t.words.0 c;
      filled = t.filled.0 d;
      zeroed = t.zeroed.0 e;
      stack = t.stack.0 f;
      entry = t.entry.0 g;
      regions = t.regions.0 h;
      level = t.level.0 i;
      segments = t.segments.0 j;
    }

-- of two that are nothing, each is nothing
pub option_or-both_none : {X : Type 0} (o p : Option X) → option_or o p ≡ None → (o ≡ None) × (p ≡ None)
option_or-both_none None p e = (refl, e)
option_or-both_none (Some x) p e = absurd cc

pub unless-none : {X : Type 0} (ok : Bool) (x : X) → unless ok x ≡ None → IsTrue ok
unless-none true x e = refl
unless-none false x e = absurd cc

pub FieldsFit-least : (n : Numbers) → least_bad_field n ≡ None → FieldsFit n
unfolding least_bad_field
FieldsFit-least n e =
    let a = option_or-both_none (unless (is_base n.code_base) 1) _ e in
    let b = option_or-both_none (unless (data_bases_fit n.segments) 2) _ a.1 in
    let c = option_or-both_none (unless (code_words_fit n.code_base n.words) 3) _ b.1 in
    let d = option_or-both_none (unless (data_bytes_fit n.segments) 4) _ c.1 in
    let f = option_or-both_none (unless (zeroed_bytes_fit n.segments) 5) _ d.1 in
    let g = option_or-both_none (unless (stack_bytes_fit n.stack) 6) _ f.1 in
    let h = option_or-both_none (unless (entry_fits n.code_base n.words n.entry) 7) _ g.1 in
    let i = option_or-both_none (unless (regions_fit n) 8) _ h.1 in
    let j = option_or-both_none (unless (level_fits n.level) 9) _ i.1 in
    let k = option_or-both_none (unless (segments_fit n.segments) 10) _ j.1 in
    FieldsFit-tests n (unless-none _ _ a.0) (unless-none _ _ b.0) (unless-none _ _ c.0) (unless-none _ _ d.0)
    (unless-none _ _ f.0) (unless-none _ _ g.0) (unless-none _ _ h.0) (unless-none _ _ i.0) (unless-none _ _ j.0)
    (unless-none _ _ k.0)

pub least-FieldsFit : (n : Numbers) → FieldsFit n → least_bad_field n ≡ None
unfolding least_bad_field
least-FieldsFit n fit =
    let t = tests_decide n in
    rw (
      t.code_base.1 fit.code_base,
      t.data_bases.1 fit.data_bases,
      t.words.1 fit.words,
      t.filled.1 fit.filled,
      t.zeroed.1 fit.zeroed,
      t.stack.1 fit.stack,
      t.entry.1 fit.entry,
      t.regions.1 fit.regions,
      t.level.1 fit.level,
      t.segments.1 fit.segments,
    ) refl
