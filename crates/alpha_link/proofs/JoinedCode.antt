-- Code that consists of accepted parts is accepted, and so is code that is alike to accepted code.
use Rattle.std.proofs.Common.{◌≡◌, ℕ, zero, suc, ◌+◌, ◌-◌, ◌<◌, ◌≤◌, List, [], ◌∷◌, ◌++◌, length, Option, Some}
use Rattle.std.proofs.Common.{slice_get, ap, sym, subst, refl, ◌∙◌, ⊎_elim, arith}
use Rattle.std.specs.Prelude.{All}
use Rattle.std.specs.List.{concat}
use Rattle.std.specs.Option.{option_and_then}
use Rattle.std.proofs.lemmas.Bool.{cases_lt}
use Rattle.std.proofs.lemmas.List.{length-append}
use Rattle.std.proofs.lemmas.List.Elements.{All-head, All-tail}
use Rattle.alpha_table.specs.declared.columns.InsnKind.{InsnKind}
use Rattle.alpha_table.specs.declared.columns.InsnKind.TheVariants as kinds
use Rattle.alpha_table.specs.declared.columns.MemAccess.{MemAccess}
use Rattle.alpha_table.specs.Class.{Class}
use Rattle.alpha_table.specs.Code.{class_at, Straight}
use Rattle.alpha_table.specs.Words.{class_in}
use Rattle.alpha_shadow.specs.declared.broken.Condition.{Condition}
use Rattle.alpha_shadow.specs.declared.broken.Condition.TheVariants.{ZeroDestination, SourceLost, SameDestination}
use Rattle.alpha_shadow.specs.declared.broken.Condition.TheVariants.{WildBase, LoadThenStore, Locked, Turn, Open, Long}
use Rattle.alpha_shadow.specs.Code.{kind_at, destination_at, access_at, Sets, Uses, SetIn, ExposedIn}
use Rattle.alpha_shadow.specs.Broken.{Holds, IsBroken, IsAccepted}
use Rattle.alpha_shadow.proofs.WordColumns.{kind_within}
use Rattle.alpha_link.specs.Alike.{HaveSameColumns, AreAlike}

-- the words of a part stand in the whole from a place on
pub record ShowsPartOf (whole part : List ℕ) (from : ℕ) : Type 0 where
  pub columns : (k : ℕ) → k < length part → HaveSameColumns (class_at whole (from + k)) (class_at part k)
  pub within : from + length part ≤ length whole

-- a place of the whole that is one of the part
at_place : (P : ℕ → Type 0) (from place : ℕ) → from ≤ place → P place → P (from + (place - from))
at_place P from place above h = let same : place ≡ from + (place - from) = omega arith in subst P same h

set_down : (whole part : List ℕ) (from f t r : ℕ) → ShowsPartOf whole part from → t ≤ length part
    → SetIn whole (from + f) (from + t) r → SetIn part f t r
set_down whole part from f t r s within h =
    let k = h.place - from in
    let above : from ≤ h.place = omega (arith, h.above) in
    let below : k < t = omega (arith, h.below) in
    let here : Sets whole (from + k) r = at_place (λ p. Sets whole p r) from h.place above h.sets in
    record {
      place = k;
      above = omega (arith, h.above);
      below = below;
      sets = sym (s.columns k (omega arith)).sets ∙ here;
    }

set_up : (whole part : List ℕ) (from f t r : ℕ) → ShowsPartOf whole part from → t ≤ length part → SetIn part f t r
    → SetIn whole (from + f) (from + t) r
set_up whole part from f t r s within h =
    record {
      place = from + h.place;
      above = omega (arith, h.above);
      below = omega (arith, h.below);
      sets = (s.columns h.place (omega (arith, h.below))).sets ∙ h.sets;
    }

exposed_down : (whole part : List ℕ) (from f t r : ℕ) → ShowsPartOf whole part from → t ≤ length part
    → ExposedIn whole (from + f) (from + t) r → ExposedIn part f t r
exposed_down whole part from f t r s within h =
    let k = h.place - from in
    let above : from ≤ h.place = omega (arith, h.above) in
    let below : k < t = omega (arith, h.below) in
    let same : h.place ≡ from + k = omega arith in
    let here : Uses whole (from + k) r = at_place (λ p. Uses whole p r) from h.place above h.uses in
    record {
      place = k;
      above = omega (arith, h.above);
      below = below;
      uses = sym ((s.columns k (omega arith)).uses r) ∙ here;
      unset =
          λ set. h.unset
          (subst (λ (p : ℕ). SetIn whole (from + f) p r) (sym same) (set_up whole part from f k r s (omega arith) set));
    }

straight_down : (whole part : List ℕ) (from p i : ℕ) → ShowsPartOf whole part from → i ≤ length part
    → Straight whole (from + p) (from + i) → Straight part p i
straight_down whole part from p i s within h k above below =
    let there = h (from + k) (omega arith) (omega arith) in
    let same = (s.columns k (omega arith)).kind in
    (λ e. there.0 (same ∙ e), λ e. there.1 (same ∙ e))

access_down : (whole part : List ℕ) (from i : ℕ) (a : MemAccess) → ShowsPartOf whole part from → i < length part
    → access_at whole (from + i) ≡ Some a → access_at part i ≡ Some a
access_down whole part from i a s within e = sym (s.columns i within).access ∙ e

kind_down : (whole part : List ℕ) (from i : ℕ) (k : Option InsnKind) → ShowsPartOf whole part from → i < length part
    → kind_at whole (from + i) ≡ k → kind_at part i ≡ k
kind_down whole part from i k s within e = sym (s.columns i within).kind ∙ e

meets_down : (whole part : List ℕ) (from p i : ℕ) → ShowsPartOf whole part from → i < length part
    → Holds whole (from + p) (from + i) LoadThenStore → Holds part p i LoadThenStore
meets_down whole part from p i s within h =
    let k = h.0 - from in
    let above : from ≤ h.0 = omega (arith, h.1) in
    let below : k < i = omega (arith, h.2) in
    let load = h.3.0 in
    let store = h.3.1.0 in
    let m = h.3.1.1 in (
      k,
      omega (arith, h.1),
      below,
      (
        load,
        (
          store,
          (
            kind_down whole part from k (Some kinds.Load) s (omega arith)
                (at_place (λ p. kind_at whole p ≡ Some kinds.Load) from h.0 above m.0),
            access_down whole part from k load s (omega arith)
                (at_place (λ p. access_at whole p ≡ Some load) from h.0 above m.1),
            kind_down whole part from i (Some kinds.Store) s within m.2,
            access_down whole part from i store s within m.3,
            m.4,
          ),
        ),
      ),
    )

destination_down : (whole part : List ℕ) (from i : ℕ) (d : Option ℕ) → ShowsPartOf whole part from → i < length part
    → destination_at whole (from + i) ≡ d → destination_at part i ≡ d
destination_down whole part from i d s within e = sym (s.columns i within).destination ∙ e

-- what holds at a place of the part, but for its end
holds_down : (whole part : List ℕ) (from p i : ℕ) (c : Condition) → ShowsPartOf whole part from → p ≤ i
    → i < length part
    → Holds whole (from + p) (from + i) c → Holds part p i c
holds_down whole part from p i ZeroDestination s order within h =
    (omega (arith, h.0), destination_down whole part from p (Some 31) s (omega arith) h.1)
holds_down whole part from p i SourceLost s order within h =
    let next : from + i + 1 ≡ from + (i + 1) = omega arith in (
      h.0,
      sym (s.columns i within).sets ∙ h.1,
      exposed_down whole part from p (i + 1) h.0 s (omega arith)
          (subst (λ (t : ℕ). ExposedIn whole (from + p) t h.0) next h.2),
    )
holds_down whole part from p i SameDestination s order within h = (
  omega (arith, h.0),
  kind_down whole part from i (Some kinds.Trigger) s within h.1,
  sym (s.columns i within).destination ∙ (h.2 ∙ (s.columns p (omega arith)).destination),
)
holds_down whole part from p i WildBase s order within h = (
  omega (arith, h.0),
  (
    h.1.0,
    access_down whole part from i h.1.0 s within h.1.1,
    set_down whole part from p i h.1.0.base s (omega arith) h.1.2,
  ),
)
holds_down whole part from p i LoadThenStore s order within h = meets_down whole part from p i s within h
holds_down whole part from p i Locked s order within h = kind_down whole part from i (Some kinds.Locked) s within h
holds_down whole part from p i Turn s order within h = kind_down whole part from i (Some kinds.Turn) s within h
holds_down whole part from p i Open s order within h = absurd (omega (arith, h, s.within))
holds_down whole part from p i Long s order within h =
    (omega (arith, h.0), within, λ e. h.2 ((s.columns i within).kind ∙ e))

-- an accepted part has no trigger that breaks a place of the whole
pub IsAccepted-part_unbroken : (whole part : List ℕ) (from : ℕ) → ShowsPartOf whole part from → IsAccepted part
    → (p at : ℕ) (c : Condition) → p < length part → IsBroken whole (from + p) at c → ⊥
IsAccepted-part_unbroken whole part from s accepted p at c within h =
    let i = at - from in
    let same : at ≡ from + i = omega (arith, h.order) in
    let order : p ≤ i = omega (arith, h.order) in
    let trigger = kind_down whole part from p (Some kinds.Trigger) s within h.trigger_kind in
    let straight : Straight whole (from + p) (from + i) =
    subst (λ (t : ℕ). Straight whole (from + p) t) same h.straight in
    ⊎_elim
    (λ (below : i < length part).
    accepted p i c (record {
      trigger_kind = trigger;
      order = order;
      straight = straight_down whole part from p i s (omega arith) straight;
      holds =
          holds_down whole part from p i c s order below (subst (λ (t : ℕ). Holds whole (from + p) t c) same h.holds);
    }))
    (λ (past : length part ≤ i).
    accepted p (length part) Open (record {
      trigger_kind = trigger;
      order = omega arith;
      straight =
          straight_down whole part from p (length part) s (omega arith)
          (λ k above below. straight k above (omega arith));
      holds = refl;
    }))
    (cases_lt i (length part))

pub same_columns : (c d : Option Class) → c ≡ d → HaveSameColumns c d
same_columns c d e =
    subst (HaveSameColumns c) e
    (record { kind = refl; sets = refl; uses = λ r. refl; access = refl; destination = refl })

-- words at the front, and behind it
slice_get-append_front : (a b : List ℕ) (k : ℕ) → k < length a → slice_get (a ++ b) k ≡ slice_get a k
slice_get-append_front [] b k h = absurd (omega arith)
slice_get-append_front (x ∷ a) b zero h = refl
slice_get-append_front (x ∷ a) b (suc k) h = slice_get-append_front a b k (omega arith)

get_behind : (a b : List ℕ) (k : ℕ) → slice_get (a ++ b) (length a + k) ≡ slice_get b k
get_behind [] b k = let same : 0 + k ≡ k = omega arith in ap (slice_get b) same
get_behind (x ∷ a) b k =
    let next : suc (length a) + k ≡ suc (length a + k) = omega arith in
    ap (slice_get (x ∷ (a ++ b))) next ∙ get_behind a b k

shows_front : (a b : List ℕ) → ShowsPartOf (a ++ b) a 0
unfolding class_at
shows_front a b = record {
  columns = λ k h.
      let same : 0 + k ≡ k = omega arith in
      same_columns (class_at (a ++ b) (0 + k)) (class_at a k)
      (ap (λ (i : ℕ). class_at (a ++ b) i) same ∙ ap (option_and_then class_in) (slice_get-append_front a b k h));
  within = omega (arith, length-append a b);
}

shows_behind : (a b : List ℕ) → ShowsPartOf (a ++ b) b (length a)
unfolding class_at
shows_behind a b = record {
  columns = λ k h.
      same_columns (class_at (a ++ b) (length a + k)) (class_at b k) (ap (option_and_then class_in) (get_behind a b k));
  within = omega (arith, length-append a b);
}

pub accepted_append : (a b : List ℕ) → IsAccepted a → IsAccepted b → IsAccepted (a ++ b)
accepted_append a b first second t at c h =
    ⊎_elim
    (λ (front : t < length a). let same : t ≡ 0 + t = omega arith in
    IsAccepted-part_unbroken (a ++ b) a 0 (shows_front a b) first t at c front
    (subst (λ (p : ℕ). IsBroken (a ++ b) p at c) same h))
    (λ (behind : length a ≤ t).
    let same : t ≡ length a + (t - length a) = omega arith in
    let below = kind_within (a ++ b) t kinds.Trigger h.trigger_kind in
    IsAccepted-part_unbroken (a ++ b) b (length a) (shows_behind a b) second (t - length a) at c
    (omega (arith, length-append a b))
    (subst (λ (p : ℕ). IsBroken (a ++ b) p at c) same h))
    (cases_lt t (length a))

accepted_none : IsAccepted []
accepted_none t at c h = let below = kind_within [] t kinds.Trigger h.trigger_kind in omega arith

pub accepted_concat : (parts : List (List ℕ)) → All IsAccepted parts → IsAccepted (concat parts)
accepted_concat [] all = accepted_none
accepted_concat (part ∷ parts) all =
    accepted_append part (concat parts) (All-head IsAccepted part parts all)
    (accepted_concat parts (All-tail IsAccepted part parts all))

shows_alike : (a b : List ℕ) → AreAlike a b → ShowsPartOf b a 0
shows_alike a b alike = record {
  columns = λ k h.
      let same : k ≡ 0 + k = omega arith in
      let own = alike.columns k in
      subst (λ (i : ℕ). HaveSameColumns (class_at b i) (class_at a k)) same (record {
        kind = sym own.kind;
        sets = sym own.sets;
        uses = λ r. sym (own.uses r);
        access = sym own.access;
        destination = sym own.destination;
      });
  within = omega (arith, alike.size);
}

pub parts_accepted-alike : (a b : List ℕ) → AreAlike a b → IsAccepted a → IsAccepted b
parts_accepted-alike a b alike accepted t at c h =
    let same : t ≡ 0 + t = omega arith in
    let below = kind_within b t kinds.Trigger h.trigger_kind in
    IsAccepted-part_unbroken b a 0 (shows_alike a b alike) accepted t at c (omega (arith, alike.size))
    (subst (λ (p : ℕ). IsBroken b p at c) same h)
