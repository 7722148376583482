-- A test of whether some place of code is broken under a condition. Where it finds none, there is none.
use Rattle.std.proofs.Common.{◌≡◌, ◌≢◌, ◌<◌, ◌≤◌, ◌+◌, ◌-◌, ◌&&◌, ◌==◌, not, ℕ, Bool, true, false, eqb, ltb, List}
use Rattle.std.proofs.Common.{length, Option, Some, None, is_some, refl, sym, ap, ◌∙◌, ⊎_elim, arith}
use Rattle.std.specs.List.{list_all, list_any, range_with_len}
use Rattle.std.specs.Option.{option_map_or}
use Rattle.std.proofs.lemmas.Bool.{cases_lt, eq-eqb, lt-ltb, eqb-true, and_from}
use Rattle.alpha_table.specs.declared.columns.InsnKind.{InsnKind}
use Rattle.alpha_table.specs.declared.columns.InsnKind.TheVariants as kinds
use Rattle.alpha_table.specs.declared.columns.MemAccess.{MemAccess}
use Rattle.alpha_table.specs.Class.{Class}
use Rattle.alpha_table.specs.Code.{class_at, kind, trap_rc}
use Rattle.alpha_table.specs.Uses.{sets, uses, access}
use Rattle.alpha_shadow.specs.declared.broken.Condition.{Condition}
use Rattle.alpha_shadow.specs.declared.broken.Condition.TheVariants.{ZeroDestination, SourceLost, SameDestination}
use Rattle.alpha_shadow.specs.declared.broken.Condition.TheVariants.{WildBase, LoadThenStore, Locked, Turn, Open, Long}
use Rattle.alpha_shadow.specs.Broken.{Holds, IsBroken}
use Rattle.alpha_trap.specs.Scan.{is_straight, is_destination}
use Rattle.alpha_trap.proofs.ClassTests.{trigger_has_rc, trap_rc-is_destination, kind-is_straight}
use Rattle.alpha_trap.proofs.GreatestInRange.{list_any-of_range, list_all-range_intro, list_all-range_elim}
use Rattle.alpha_restart.proofs.CodeWordBounds.{class_within}
use Rattle.alpha_shadow.proofs.WordColumns.{class_at-past_end}

-- ---- tests of one word

abbrev is_register : Option ℕ → ℕ → Bool
is_register o r = option_map_or (λ x. x == r) o false

abbrev is_load : InsnKind → Bool
is_load kinds.Load = true
is_load _ = false

abbrev is_store : InsnKind → Bool
is_store kinds.Store = true
is_store _ = false

abbrev is_locked : InsnKind → Bool
is_locked kinds.Locked = true
is_locked _ = false

abbrev is_turn : InsnKind → Bool
is_turn kinds.Turn = true
is_turn _ = false

abbrev of_kind : (InsnKind → Bool) → Option Class → Bool
of_kind test c = option_map_or test (kind c) false

is_named-same : (o : Option ℕ) (r : ℕ) → o ≡ Some r → is_register o r ≡ true
is_named-same o r e = ap (λ x. is_register x r) e ∙ eq-eqb r r refl

is_register-not : (o : Option ℕ) (r : ℕ) → o ≢ Some r → not (is_register o r) ≡ true
is_register-not None r n = refl
is_register-not (Some x) r n = by (eqb x r) refl
  where
    by : (b : Bool) → eqb x r ≡ b → not b ≡ true
    by true e = absurd (n (ap Some (eqb-true x r e)))
    by false e = refl

kind_is : (test : InsnKind → Bool) (c : Option Class) (k : InsnKind) → kind c ≡ Some k → test k ≡ true
    → of_kind test c ≡ true
kind_is test c k e t = ap (λ o. option_map_or test o false) e ∙ t

-- ---- tests of a place

-- the word uses the register, and no word from the trigger up to it sets it
abbrev is_exposed : List ℕ → ℕ → ℕ → ℕ → Bool
is_exposed code t r j =
    uses (class_at code j) r && list_all (λ k. not (is_register (sets (class_at code k)) r)) (range_with_len t (j - t))

abbrev may_hold : List ℕ → ℕ → ℕ → Condition → Bool
may_hold code t i ZeroDestination = (i == t) && is_destination (class_at code t) 31
may_hold code t i SourceLost =
    option_map_or (λ r. list_any (is_exposed code t r) (range_with_len t (i + 1 - t))) (sets (class_at code i)) false
may_hold code t i SameDestination = ltb t i && is_some (trap_rc (class_at code i))
may_hold code t i WildBase =
    ltb t i
    && option_map_or (λ a. list_any (λ k. is_register (sets (class_at code k)) a.base) (range_with_len t (i - t)))
    (access (class_at code i)) false
may_hold code t i LoadThenStore =
    of_kind is_store (class_at code i)
    && list_any (λ k. of_kind is_load (class_at code k)) (range_with_len (t + 1) (i - (t + 1)))
may_hold code t i Locked = of_kind is_locked (class_at code i)
may_hold code t i Turn = of_kind is_turn (class_at code i)
may_hold code t i Open = i == length code
may_hold code t i Long = (i == t + 1025) && ltb i (length code)

holds_may : (code : List ℕ) (t i : ℕ) (c : Condition) → t ≤ i → Holds code t i c → may_hold code t i c ≡ true
holds_may code t i ZeroDestination order h =
    and_from (i == t) _ (eq-eqb i t h.0) (trap_rc-is_destination (class_at code t) 31 h.1)
holds_may code t i SourceLost order h =
    let r = h.0 in
    let j = h.2.place in
    let low = h.2.above in
    let high = h.2.below in
    ap (λ o. option_map_or (λ x. list_any (is_exposed code t x) (range_with_len t (i + 1 - t))) o false) h.1
    ∙ list_any-of_range (is_exposed code t r) t (i + 1 - t) j low (omega arith)
    (and_from (uses (class_at code j) r) _ h.2.uses
    (list_all-range_intro (λ k. not (is_register (sets (class_at code k)) r)) t (j - t)
    (λ k above below. is_register-not (sets (class_at code k)) r
    (λ e. h.2.unset (record { place = k; above = above; below = omega arith; sets = e })))))
holds_may code t i SameDestination order h =
    and_from (ltb t i) _ (lt-ltb t i h.0) (trigger_has_rc (class_at code i) h.1)
holds_may code t i WildBase order h =
    let base = h.1.0.base in
    let set = h.1.2 in
    let low = set.above in
    let high = set.below in
    and_from (ltb t i) _ (lt-ltb t i h.0)
    (ap (λ o. option_map_or (λ (a : MemAccess).
    list_any (λ k. is_register (sets (class_at code k)) a.base) (range_with_len t (i - t))) o false) h.1.1
    ∙ list_any-of_range (λ k. is_register (sets (class_at code k)) base) t (i - t) set.place low (omega arith)
    (is_named-same (sets (class_at code set.place)) base set.sets))
holds_may code t i LoadThenStore order h =
    let low = h.1 in
    let high = h.2 in
    let meets = h.3.1.1 in
    and_from (of_kind is_store (class_at code i)) _ (kind_is is_store (class_at code i) kinds.Store meets.2 refl)
    (list_any-of_range (λ k. of_kind is_load (class_at code k)) (t + 1) (i - (t + 1)) h.0 (omega arith) (omega arith)
    (kind_is is_load (class_at code h.0) kinds.Load meets.0 refl))
holds_may code t i Locked order h = kind_is is_locked (class_at code i) kinds.Locked h refl
holds_may code t i Turn order h = kind_is is_turn (class_at code i) kinds.Turn h refl
holds_may code t i Open order h = eq-eqb i (length code) h
holds_may code t i Long order h = and_from (i == t + 1025) _ (eq-eqb i (t + 1025) h.0) (lt-ltb i (length code) h.1)

-- ---- the test of code

abbrev may_break : List ℕ → Condition → ℕ → ℕ → Bool
may_break code c t i =
    is_some (trap_rc (class_at code t))
    && (list_all (λ k. is_straight (class_at code k)) (range_with_len t (i - t)) && may_hold code t i c)

-- no place of the code, or right behind it, is broken under the condition
abbrev pub nothing_broken : List ℕ → Condition → Bool
nothing_broken code c =
    list_all (λ t. list_all (λ i. not (may_break code c t i)) (range_with_len t (length code + 1 - t)))
    (range_with_len 0 (length code))

-- a trigger stands in the code
trigger_within : (code : List ℕ) (t : ℕ) → kind (class_at code t) ≡ Some kinds.Trigger → t < length code
trigger_within code t e = by (class_at code t) refl e
  where
    by : (o : Option Class) → class_at code t ≡ o → kind o ≡ Some kinds.Trigger → t < length code
    by None f k = cc
    by (Some class) f k = class_within code t class f

-- a broken place stands in the code, or right behind it
holds_within : (code : List ℕ) (t i : ℕ) (c : Condition) → t < length code → Holds code t i c → i ≤ length code
holds_within code t i c low h =
    ⊎_elim (λ (far : length code < i). absurd (by c h far (class_at-past_end code i (omega arith))))
    (λ (near : i ≤ length code). near) (cases_lt (length code) i)
  where
    by : (c : Condition) → Holds code t i c → length code < i → class_at code i ≡ None → ⊥
    by ZeroDestination h far none = let same = h.0 in omega arith
    by SourceLost h far none = let e : None ≡ Some h.0 = sym (ap sets none) ∙ h.1 in cc
    by SameDestination h far none = let e : None ≡ Some kinds.Trigger = sym (ap kind none) ∙ h.1 in cc
    by WildBase h far none = let e : None ≡ Some h.1.0 = sym (ap access none) ∙ h.1.1 in cc
    by LoadThenStore h far none = let e : None ≡ Some kinds.Store = sym (ap kind none) ∙ h.3.1.1.2 in cc
    by Locked h far none = let e : None ≡ Some kinds.Locked = sym (ap kind none) ∙ h in cc
    by Turn h far none = let e : None ≡ Some kinds.Turn = sym (ap kind none) ∙ h in cc
    by Open h far none = omega arith
    by Long h far none = let near = h.1 in omega arith

pub nothing_broken-sound : (code : List ℕ) (c : Condition) → nothing_broken code c ≡ true → (t i : ℕ)
    → IsBroken code t i c → ⊥
nothing_broken-sound code c e t i h =
    let low = trigger_within code t h.trigger_kind in
    let order = h.order in
    let near = holds_within code t i c low h.holds in
    let here =
    list_all-range_elim (λ s. list_all (λ k. not (may_break code c s k)) (range_with_len s (length code + 1 - s))) 0
    (length code) t e (omega arith) (omega arith) in
    let never =
    list_all-range_elim (λ k. not (may_break code c t k)) t (length code + 1 - t) i here order (omega arith) in
    let found : may_break code c t i ≡ true =
    and_from (is_some (trap_rc (class_at code t))) _ (trigger_has_rc (class_at code t) h.trigger_kind)
    (and_from (list_all (λ k. is_straight (class_at code k)) (range_with_len t (i - t))) _
    (list_all-range_intro (λ k. is_straight (class_at code k)) t (i - t)
    (λ k above below. let s = h.straight k above (omega arith) in kind-is_straight (class_at code k) s.0 s.1))
    (holds_may code t i c order h.holds)) in
    let f : not true ≡ true = sym (ap not found) ∙ never in
    cc
