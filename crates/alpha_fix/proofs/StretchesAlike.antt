-- A place is broken by the columns of the words of its shadow, wherever the shadow stands.
use Rattle.std.proofs.Common.{◌≡◌, ◌<◌, ◌≤◌, ◌+◌, ◌-◌, ℕ, List, length, slice_get, sym, ◌∙◌, ap, subst, arith, IsTrue}
use Rattle.std.specs.Option.{option_and_then}
use Rattle.alpha_table.specs.Words.{class_in}
use Rattle.alpha_table.specs.Code.{class_at, kind, trap_rc}
use Rattle.alpha_table.specs.Uses.{sets, uses, access}
use Rattle.alpha_shadow.specs.declared.broken.Condition.{Condition}
use Rattle.alpha_shadow.specs.declared.broken.Condition.TheVariants.{ZeroDestination, SourceLost, SameDestination}
use Rattle.alpha_shadow.specs.declared.broken.Condition.TheVariants.{WildBase, LoadThenStore, Locked, Turn, Open, Long}
use Rattle.alpha_shadow.specs.Code.{kind_at, destination_at, access_at, sets_at, SetIn, ExposedIn}
use Rattle.alpha_shadow.specs.Broken.{Holds, IsBroken}

-- two words have the same columns
pub record LooksAlike (code : List ℕ) (at : ℕ) (other : List ℕ) (there : ℕ) : Type 0 where
  pub same_kind : kind_at code at ≡ kind_at other there
  pub same_destination : destination_at code at ≡ destination_at other there
  pub same_set : sets_at code at ≡ sets_at other there
  pub same_access : access_at code at ≡ access_at other there
  pub same_uses : (r : ℕ) → uses (class_at code at) r ≡ uses (class_at other there) r

pub LooksAlike-same_class : (code : List ℕ) (at : ℕ) (other : List ℕ) (there : ℕ)
    → class_at code at ≡ class_at other there
    → LooksAlike code at other there
LooksAlike-same_class code at other there e = record {
  same_kind = ap kind e;
  same_destination = ap trap_rc e;
  same_set = ap sets e;
  same_access = ap access e;
  same_uses = λ r. ap (λ c. uses c r) e;
}

pub LooksAlike-same_word : (code : List ℕ) (at : ℕ) (other : List ℕ) (there : ℕ)
    → slice_get code at ≡ slice_get other there
    → LooksAlike code at other there
unfolding class_at
LooksAlike-same_word code at other there e = LooksAlike-same_class code at other there (ap (option_and_then class_in) e)

-- The words from p up to a place and those of other code from q up to a place there look alike, and both places are
-- places of the code, or its ends.
pub record Stretch (code : List ℕ) (p at : ℕ) (other : List ℕ) (q there : ℕ) : Type 0 where
  pub shift : there + p ≡ at + q
  pub alike : (k j : ℕ) → p ≤ k → k ≤ at → j + p ≡ k + q → LooksAlike code k other j
  pub within : at < length code → there < length other
  pub ends : at ≡ length code → there ≡ length other

module _ (code : List ℕ) (p at : ℕ) (other : List ℕ) (q there : ℕ) (s : Stretch code p at other q there) where
  set_along : (from to from2 to2 r : ℕ) → p ≤ from → to ≤ at + 1 → from2 + p ≡ from + q → to2 + p ≡ to + q
      → SetIn code from to r → SetIn other from2 to2 r
  set_along from to from2 to2 r above below e f h =
      let j : ℕ = h.place + q - p in
      let g : j + p ≡ h.place + q = omega arith in
      record {
        place = j;
        above = omega arith;
        below = omega arith;
        sets = sym (s.alike h.place j (omega arith) (omega arith) g).same_set ∙ h.sets;
      }

  set_back : (from to from2 to2 r : ℕ) → p ≤ from → to ≤ at + 1 → from2 + p ≡ from + q → to2 + p ≡ to + q
      → SetIn other from2 to2 r → SetIn code from to r
  set_back from to from2 to2 r above below e f h =
      let k : ℕ = h.place + p - q in
      let g : h.place + p ≡ k + q = omega arith in
      record {
        place = k;
        above = omega arith;
        below = omega arith;
        sets = (s.alike k h.place (omega arith) (omega arith) g).same_set ∙ h.sets;
      }

  exposed_along : (r : ℕ) → ExposedIn code p (at + 1) r → ExposedIn other q (there + 1) r
  exposed_along r h =
      let j : ℕ = h.place + q - p in
      let e : there + p ≡ at + q = s.shift in
      let g : j + p ≡ h.place + q = omega arith in
      record {
        place = j;
        above = omega arith;
        below = omega arith;
        uses = subst IsTrue ((s.alike h.place j (omega arith) (omega arith) g).same_uses r) h.uses;
        unset = λ t. h.unset (set_back p h.place q j r (omega arith) (omega arith) (omega arith) g t);
      }

  holds_along : p ≤ at → (c : Condition) → Holds code p at c → Holds other q there c
  holds_along o ZeroDestination h =
      let e : there + p ≡ at + q = s.shift in let same : at ≡ p = h.0 in
      (omega arith, sym (s.alike p q (omega arith) (omega arith) (omega arith)).same_destination ∙ h.1)
  holds_along o SourceLost h =
      (h.0, sym (s.alike at there (omega arith) (omega arith) s.shift).same_set ∙ h.1, exposed_along h.0 h.2)
  holds_along o SameDestination h =
      let w = s.alike at there (omega arith) (omega arith) s.shift in
      let v = s.alike p q (omega arith) (omega arith) (omega arith) in
      let e : there + p ≡ at + q = s.shift in let l : p < at = h.0 in
      (omega arith, sym w.same_kind ∙ h.1, sym w.same_destination ∙ (h.2 ∙ v.same_destination))
  holds_along o WildBase h =
      let w = s.alike at there (omega arith) (omega arith) s.shift in
      let e : there + p ≡ at + q = s.shift in let l : p < at = h.0 in
      let set = set_along p at q there h.1.0.base (omega arith) (omega arith) (omega arith) e h.1.2 in
      (omega arith, (h.1.0, sym w.same_access ∙ h.1.1, set))
  holds_along o LoadThenStore h =
      let w = s.alike at there (omega arith) (omega arith) s.shift in
      let e : there + p ≡ at + q = s.shift in
      let above = h.1 in
      let below = h.2 in
      let j : ℕ = h.0 + q - p in
      let g : j + p ≡ h.0 + q = omega arith in
      let v = s.alike h.0 j (omega arith) (omega arith) g in
      let m = h.3.1.1 in (
        j,
        omega arith,
        omega arith,
        (
          h.3.0,
          (
            h.3.1.0,
            (sym v.same_kind ∙ m.0, sym v.same_access ∙ m.1, sym w.same_kind ∙ m.2, sym w.same_access ∙ m.3, m.4),
          ),
        ),
      )
  holds_along o Locked h = sym (s.alike at there (omega arith) (omega arith) s.shift).same_kind ∙ h
  holds_along o Turn h = sym (s.alike at there (omega arith) (omega arith) s.shift).same_kind ∙ h
  holds_along o Open h = s.ends h
  holds_along o Long h =
      let w = s.alike at there (omega arith) (omega arith) s.shift in
      let e : there + p ≡ at + q = s.shift in let l : at ≡ p + 1025 = h.0 in
      (omega arith, s.within h.1, λ f. h.2 (w.same_kind ∙ f))

  pub broken_along : (c : Condition) → IsBroken code p at c → IsBroken other q there c
  broken_along c b =
      let o : p ≤ at = b.order in
      let e : there + p ≡ at + q = s.shift in
      record {
        trigger_kind = sym (s.alike p q (omega arith) o (omega arith)).same_kind ∙ b.trigger_kind;
        order = omega arith;
        straight = λ j above below.
            let k : ℕ = j + p - q in
            let g : j + p ≡ k + q = omega arith in
            let w = s.alike k j (omega arith) (omega arith) g in
            let n = b.straight k (omega arith) (omega arith) in
            (λ f. n.0 (w.same_kind ∙ f), λ f. n.1 (w.same_kind ∙ f));
        holds = holds_along o c b.holds;
      }
