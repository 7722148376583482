-- Numbers of names that are found in two trees and a map, and what another number changes of them.
use Rattle.std.proofs.Common.{◌≡◌, ℕ, List, Bool, true, false, cond, Option, None, Some, if◌then◌else◌, refl, ap, sym}
use Rattle.std.proofs.Common.{◌∙◌, Result, Ok, Err}
use Rattle.std.specs.Prelude.{OnOk, OnErr}
use Rattle.std.specs.Borrow.{Bor}
use Rattle.std.specs.BTreeMap.{get_by}
use Rattle.std.specs.Cmp.Lexicographic.{slice_cmp}
use Rattle.std.specs.Ordering.{nat_cmp, is_eq}
use Rattle.std.specs.Str.{bytes_eq}
use Rattle.std.proofs.lemmas.Map.Text.{is_eq-slice_cmp}
use Rattle.std.proofs.lemmas.Slice.Eq.{bytes_eq-Decides}
use Rattle.alpha_names.specs.declared.others.Others.{Others}
use Rattle.alpha_names.specs.declared.tree.Slot.{Slot}
use Rattle.alpha_names.specs.declared.tree.Look.{Look}
use Rattle.alpha_names.specs.declared.tree.Look.TheVariants.{Free, Taken, Deep}
use Rattle.alpha_names.specs.Tree.{seek_in, Fills}
use Rattle.alpha_names.specs.Finder.{Finder, taken_or, found_by, if_right, other_number, IsOnly, Keeps, Grows}
use Rattle.alpha_names.proofs.TreeSearches.{by_bool, not_both, is_free, seek_in-kept, seek_in-filled}

pub none_is_some : {X : Type 0} (x : X) → None ≡ Some x → ⊥
none_is_some x e = absurd cc

cond-number : (b : Bool) (k : ℕ) (before behind : Option ℕ) (number : ℕ)
    → (before ≡ Some number → behind ≡ Some number) →
    (if b then Some k else before) ≡ Some number → (if b then Some k else behind) ≡ Some number
cond-number true k before behind number goes e = e
cond-number false k before behind number goes e = goes e

-- what is found by one search or behind it is found by a search that finds no less
pub taken_or-monotone : (is_right : ℕ → Bool) (old new : Look) (before behind : Option ℕ) (number : ℕ) →
    ((l : Look) → is_free l ≡ false → old ≡ l → new ≡ l) → (before ≡ Some number → behind ≡ Some number) →
    taken_or is_right old before ≡ Some number → taken_or is_right new behind ≡ Some number
taken_or-monotone is_right (Free place) new before behind number keeps goes e = absurd (none_is_some number e)
taken_or-monotone is_right (Taken k) new before behind number keeps goes e =
    ap (λ (l : Look). taken_or is_right l behind) (keeps (Taken k) refl refl)
    ∙ cond-number (is_right k) k before behind number goes e
taken_or-monotone is_right Deep new before behind number keeps goes e =
    ap (λ (l : Look). taken_or is_right l behind) (keeps Deep refl refl) ∙ goes e

pub taken_or-Taken : (is_right : ℕ → Bool) (number : ℕ) (l : Look) (behind : Option ℕ) → IsOnly number is_right
    → l ≡ Taken number →
    taken_or is_right l behind ≡ Some number
taken_or-Taken is_right number l behind only e =
    ap (λ (l : Look). taken_or is_right l behind) e ∙ ap (λ (b : Bool). if b then Some number else behind) only.0

pub taken_or-passes : (is_right : ℕ → Bool) (number : ℕ) (l : Look) (behind : Option ℕ) → IsOnly number is_right
    → is_free l ≡ false →
    behind ≡ Some number → taken_or is_right l behind ≡ Some number
taken_or-passes is_right number (Free place) behind only taken e = absurd (not_both true refl taken)
taken_or-passes is_right number (Taken k) behind only taken e =
    by_bool (is_right k) ((if is_right k then Some k else behind) ≡ Some number)
    (λ held. ap (λ (b : Bool). if b then Some k else behind) held ∙ ap Some (only.1 k held))
    (λ fails. ap (λ (b : Bool). if b then Some k else behind) fails ∙ e)
taken_or-passes is_right number Deep behind only taken e = e

-- a slot of the tree has been filled with the number of a name
pub grows_free : (old new : ℕ → Slot) (hash : List ℕ → ℕ) (elsewhere : Finder) (name : List ℕ) (number place key : ℕ) →
    key ≡ hash name → seek_in old key ≡ Free place → Fills place key number old new →
    Grows (found_by old hash elsewhere) (found_by new hash elsewhere) name number
grows_free old new hash elsewhere name number place key e found fills = (
  λ is_right other k differs before. taken_or-monotone is_right (seek_in old (hash other)) (seek_in new (hash other))
      (elsewhere is_right other) (elsewhere is_right other) k
      (seek_in-kept old new place number key found fills (hash other)) (λ g. g) before,
  λ is_right only. taken_or-Taken is_right number (seek_in new (hash name)) (elsewhere is_right name) only
      (ap (seek_in new) (sym e) ∙ seek_in-filled old new place number key found fills),
)

-- what is found elsewhere has grown, and the tree holds no free slot for the name
pub grows_elsewhere : (slot : ℕ → Slot) (hash : List ℕ → ℕ) (before behind : Finder) (name : List ℕ) (number : ℕ) →
    is_free (seek_in slot (hash name)) ≡ false → Grows before behind name number →
    Grows (found_by slot hash before) (found_by slot hash behind) name number
grows_elsewhere slot hash before behind name number taken grows = (
  λ is_right other k differs e. taken_or-monotone is_right (seek_in slot (hash other)) (seek_in slot (hash other))
      (before is_right other) (behind is_right other) k (λ l f g. g) (grows.0 is_right other k differs) e,
  λ is_right only.
      taken_or-passes is_right number (seek_in slot (hash name)) (behind is_right name) only taken
      (grows.1 is_right only),
)

pub keeps_elsewhere : (slot : ℕ → Slot) (hash : List ℕ → ℕ) (before behind : Finder) → Keeps before behind →
    Keeps (found_by slot hash before) (found_by slot hash behind)
keeps_elsewhere slot hash before behind keeps = λ is_right name number e.
    taken_or-monotone is_right (seek_in slot (hash name)) (seek_in slot (hash name)) (before is_right name)
    (behind is_right name) number
    (λ l f g. g) (keeps is_right name number) e

-- the number of a name has been put into the map
abbrev pub PutsNumber : Others → Others → List ℕ → ℕ → Type 0
PutsNumber old new added number = (q : Bor (List ℕ)) → get_by (λ n. slice_cmp nat_cmp q.now n.now) new.numbers
    ≡ cond (is_eq (slice_cmp nat_cmp added q.now)) (Some number)
    (get_by (λ n. slice_cmp nat_cmp q.now n.now) old.numbers)

pub grows_other : (old new : Others) (name : List ℕ) (number : ℕ) → PutsNumber old new name number →
    Grows (other_number old) (other_number new) name number
grows_other old new name number puts = (
  λ is_right other k differs e.
      let q : Bor (List ℕ) = record { ref_ptr = (0, 0); now = other } in
      let apart : is_eq (slice_cmp nat_cmp name other) ≡ false =
      by_bool (bytes_eq name other) (is_eq (slice_cmp nat_cmp name other) ≡ false)
      (λ held. absurd (differs (sym ((bytes_eq-Decides name other).0 held))))
      (λ fails. is_eq-slice_cmp name other ∙ fails) in
      ap (λ o. if_right is_right o)
      (puts q ∙ ap (λ (b : Bool). cond b (Some number) (get_by (λ n. slice_cmp nat_cmp other n.now) old.numbers)) apart)
      ∙ e,
  λ is_right only.
      let q : Bor (List ℕ) = record { ref_ptr = (0, 0); now = name } in
      let here : is_eq (slice_cmp nat_cmp name name) ≡ true =
      is_eq-slice_cmp name name ∙ (bytes_eq-Decides name name).1 refl in
      ap (λ o. if_right is_right o)
      (puts q ∙ ap (λ (b : Bool). cond b (Some number) (get_by (λ n. slice_cmp nat_cmp name n.now) old.numbers)) here)
      ∙ ap (λ (b : Bool). if b then Some number else None) only.0,
)

pub OnErr-weaker : {X E : Type 0} (r : Result X E) (P Q : Type 0) → (P → Q) → OnErr r P → OnErr r Q
OnErr-weaker (Ok x) P Q f h = tt
OnErr-weaker (Err e) P Q f h = f h

pub not_free : (l : Look) → ((place : ℕ) → l ≡ Free place → ⊥) → is_free l ≡ false
not_free (Free place) h = absurd (h place refl)
not_free (Taken number) h = refl
not_free Deep h = refl

pub on_ok_two : {X E : Type 0} (r : Result X E) (P Q R : Type 0) → (P → Q → R) → OnOk r P → OnOk r Q → OnOk r R
on_ok_two (Ok x) P Q R f h k = f h k
on_ok_two (Err e) P Q R f h k = tt
