-- Each condition is decided, and a list of words is accepted or has a least broken place.
use Rattle.std.proofs.Common.{◌≡◌, ◌<◌, ◌≤◌, ◌+◌, ◌⊎◌, ℕ, zero, suc, Bool, true, false, Option, Some, None, List}
use Rattle.std.proofs.Common.{length, ℤ, ◌<ℤ◌, ap, inl, inr, ⊎_elim, arith, subst, sym, refl, ◌∙◌, ◌==◌, if◌then◌else◌}
use Rattle.std.proofs.lemmas.Bool.{cases_eq, cases_lt}
use Rattle.std.proofs.lemmas.Int.{by_lt_z, ints}
use Rattle.alpha_table.specs.declared.columns.InsnKind.{InsnKind}
use Rattle.alpha_table.specs.declared.columns.InsnKind.TheVariants as kinds
use Rattle.alpha_table.specs.declared.columns.MemAccess.{MemAccess}
use Rattle.alpha_table.specs.Code.{class_at, Straight}
use Rattle.alpha_table.specs.Spans.{bytes_spanned}
use Rattle.alpha_table.specs.Uses.{uses}
use Rattle.alpha_shadow.specs.declared.broken.Condition.{Condition}
use Rattle.alpha_shadow.specs.declared.broken.Condition.TheVariants.{ZeroDestination, SourceLost, SameDestination}
use Rattle.alpha_shadow.specs.declared.broken.Condition.TheVariants.{WildBase, LoadThenStore, Locked, Turn, Open, Long}
use Rattle.alpha_shadow.specs.declared.broken.Broken.{Broken}
use Rattle.alpha_shadow.specs.Code.{kind_at, destination_at, access_at, sets_at, Sets, Uses, SetIn, ExposedIn}
use Rattle.alpha_shadow.specs.Broken.{Holds, IsBroken, IsAccepted}
use Rattle.alpha_shadow.specs.Least.{IsLeastBroken, condition_number}
use Rattle.alpha_shadow.specs.Reach.{reach_of, MayTouch}
use Rattle.alpha_shadow.proofs.ConditionNumbers.{condition_of_number, condition_of_number-condition_number}
use Rattle.alpha_shadow.proofs.WordColumns.{kind_within, class_at-past_end}
use Rattle.alpha_shadow.proofs.LeastBrokenSteps.{number_bound}

-- a fact that holds, or doesn't
abbrev pub Decided : Type 0 → Type 0
Decided P = P ⊎ (P → ⊥)

Decided-both : {P Q : Type 0} → Decided P → Decided Q → Decided (P × Q)
Decided-both (inl p) (inl q) = inl (p, q)
Decided-both (inl p) (inr n) = inr (λ w. n w.1)
Decided-both (inr n) q = inr (λ w. n w.0)

Decided-or : {P Q : Type 0} → Decided P → Decided Q → Decided (P ⊎ Q)
Decided-or (inl p) q = inl (inl p)
Decided-or (inr n) (inl q) = inl (inr q)
Decided-or (inr n) (inr m) = inr (λ w. ⊎_elim n m w)

Decided-not : {P : Type 0} → Decided P → Decided (P → ⊥)
Decided-not (inl p) = inr (λ n. n p)
Decided-not (inr n) = inl n

-- what stands for a fact is decided with it
Decided-equivalent : {P Q : Type 0} → (P → Q) → (Q → P) → Decided P → Decided Q
Decided-equivalent to from (inl p) = inl (to p)
Decided-equivalent to from (inr n) = inr (λ q. n (from q))

Decided-equal : (a b : ℕ) → Decided (a ≡ b)
Decided-equal a b = cases_eq a b

Decided-less : (a b : ℕ) → Decided (a < b)
Decided-less a b = ⊎_elim (λ (q : a < b). inl q) (λ (q : b ≤ a). inr (λ r. omega arith)) (cases_lt a b)

at_most : (a b : ℕ) → Decided (a ≤ b)
at_most a b = ⊎_elim (λ (q : b < a). inr (λ r. omega arith)) (λ (q : a ≤ b). inl q) (cases_lt b a)

-- the least number below a bound for which a fact holds
pub record IsLeast (P : ℕ → Type 0) (bound n : ℕ) : Type 0 where
  pub below : n < bound
  pub holds : P n
  pub least : (k : ℕ) → P k → n ≤ k

least_below : (P : ℕ → Type 0) → ((k : ℕ) → Decided (P k)) → (bound : ℕ)
    → ((n : ℕ) × IsLeast P bound n) ⊎ ((k : ℕ) → k < bound → P k → ⊥)
least_below P d zero = inr (λ k below p. omega arith)
least_below P d (suc n) = next (least_below P d n) (d n)
  where
    next : ((m : ℕ) × IsLeast P n m) ⊎ ((k : ℕ) → k < n → P k → ⊥) → Decided (P n)
        → ((m : ℕ) × IsLeast P (suc n) m) ⊎ ((k : ℕ) → k < suc n → P k → ⊥)
    next (inl f) here =
        inl (f.0, record { below = let b = f.1.below in omega arith; holds = f.1.holds; least = f.1.least })
    next (inr none) (inl p) = inl (
      n,
      record {
        below = omega arith;
        holds = p;
        least = λ k q. ⊎_elim (λ (l : k < n). absurd (none k l q)) (λ (l : n ≤ k). l) (cases_lt k n);
      },
    )
    next (inr none) (inr not_here) = inr (λ k below p. ⊎_elim
        (λ (e : k ≡ n). not_here (subst P e p))
        (λ apart. none k (omega arith) p)
        (cases_eq k n))

-- some number below a bound
some_below : (P : ℕ → Type 0) → ((k : ℕ) → Decided (P k)) → (bound : ℕ) → Decided ((k : ℕ) × (k < bound) × P k)
some_below P d bound = ⊎_elim
    (λ (f : (n : ℕ) × IsLeast P bound n). inl (f.0, f.1.below, f.1.holds))
    (λ none. inr (λ w. none w.0 w.1 w.2))
    (least_below P d bound)

option_equal : (a b : Option ℕ) → Decided (a ≡ b)
option_equal None None = inl refl
option_equal None (Some y) = inr (λ e. cc)
option_equal (Some x) None = inr (λ e. cc)
option_equal (Some x) (Some y) = Decided-equivalent (λ e. ap Some e) (λ e. cc) (Decided-equal x y)

is_true : (b : Bool) → Decided (b ≡ true)
is_true true = inl refl
is_true false = inr (λ e. cc)

kind_number : InsnKind → ℕ
kind_number kinds.Plain = 0
kind_number kinds.Trigger = 1
kind_number kinds.Barrier = 2
kind_number kinds.Load = 3
kind_number kinds.Store = 4
kind_number kinds.Locked = 5
kind_number kinds.Turn = 6

kind_numbered : ℕ → InsnKind
kind_numbered n =
    if n == 0 then kinds.Plain
    else (if n == 1 then kinds.Trigger
    else (if n == 2 then kinds.Barrier
    else (if n == 3 then kinds.Load
    else (if n == 4 then kinds.Store
    else (if n == 5 then kinds.Locked
    else kinds.Turn)))))

kind_numbered-kind_number : (k : InsnKind) → kind_numbered (kind_number k) ≡ k
unfolding kind_numbered kind_number
kind_numbered-kind_number kinds.Plain = refl
kind_numbered-kind_number k = refl

kind_is : (o : Option InsnKind) (k : InsnKind) → Decided (o ≡ Some k)
kind_is None k = inr (λ e. cc)
kind_is (Some j) k = Decided-equivalent
    (λ e. ap Some (sym (kind_numbered-kind_number j) ∙ (ap kind_numbered e ∙ kind_numbered-kind_number k)))
    (λ e. let same : j ≡ k = cc in ap kind_number same)
    (Decided-equal (kind_number j) (kind_number k))

-- the parts of the conditions

set_in : (code : List ℕ) (from to r : ℕ) → Decided (SetIn code from to r)
set_in code from to r = Decided-equivalent
    (λ w. record { place = w.0; above = w.2.0; below = w.1; sets = w.2.1 })
    (λ h. (h.place, h.below, (h.above, h.sets)))
    (some_below (λ k. (from ≤ k) × Sets code k r)
    (λ k. Decided-both (at_most from k) (option_equal (sets_at code k) (Some r))) to)

exposed_in : (code : List ℕ) (from to r : ℕ) → Decided (ExposedIn code from to r)
exposed_in code from to r = Decided-equivalent
    (λ w. record { place = w.0; above = w.2.0; below = w.1; uses = w.2.1.0; unset = w.2.1.1 })
    (λ h. (h.place, h.below, (h.above, (h.uses, h.unset))))
    (some_below (λ k. (from ≤ k) × (Uses code k r × (SetIn code from k r → ⊥)))
    (λ k. Decided-both (at_most from k)
    (Decided-both (is_true (uses (class_at code k) r)) (Decided-not (set_in code from k r)))) to)

source_lost : (code : List ℕ) (trigger at : ℕ) → Decided (Holds code trigger at SourceLost)
source_lost code trigger at = cases (sets_at code at) refl
  where
    cases : (o : Option ℕ) → sets_at code at ≡ o → Decided (Holds code trigger at SourceLost)
    cases None e = inr (λ h. let s = h.1 in cc)
    cases (Some r) e = Decided-equivalent
        (λ x. (r, e, x))
        (λ h. let s = h.1 in let same : h.0 ≡ r = cc in subst (ExposedIn code trigger (at + 1)) same h.2)
        (exposed_in code trigger (at + 1) r)

less_signed : (a b : ℤ) → Decided (a <ℤ b)
less_signed a b = by_lt_z a b (λ l. inl l) (λ l. inr (λ m. omega (arith, ints)))

may_touch : (a b : MemAccess) → Decided (MayTouch (reach_of a) (reach_of b))
may_touch a b = Decided-or (Decided-not (Decided-equal a.base b.base))
    (Decided-both (less_signed (bytes_spanned a).low (bytes_spanned b).high)
    (less_signed (bytes_spanned b).low (bytes_spanned a).high))

-- an access at a place that may touch a byte of another
record Reaches (code : List ℕ) (place : ℕ) (store : MemAccess) : Type 0 where
  access : MemAccess
  accesses : access_at code place ≡ Some access
  meets : MayTouch (reach_of access) (reach_of store)

Decided-Reaches : (code : List ℕ) (place : ℕ) (store : MemAccess) → Decided (Reaches code place store)
Decided-Reaches code place store = cases (access_at code place) refl
  where
    cases : (o : Option MemAccess) → access_at code place ≡ o → Decided (Reaches code place store)
    cases None e = inr (λ h. let a = h.accesses in cc)
    cases (Some a) e = Decided-equivalent
        (λ m. record { access = a; accesses = e; meets = m })
        (λ h. let b = h.accesses in
        let same : h.access ≡ a = cc in
        subst (λ x. MayTouch (reach_of x) (reach_of store)) same h.meets)
        (may_touch a store)

load_then_store : (code : List ℕ) (trigger at : ℕ) → Decided (Holds code trigger at LoadThenStore)
load_then_store code trigger at = cases (access_at code at) refl
  where
    cases : (o : Option MemAccess) → access_at code at ≡ o → Decided (Holds code trigger at LoadThenStore)
    cases None e = inr (λ h. let a = h.3.1.1.3 in cc)
    cases (Some a) e = Decided-equivalent
        (λ w. let k = w.1 in
        let x = k.2.1.1 in
        (k.0, k.2.0, k.1, (x.access, (a, (k.2.1.0, x.accesses, w.0, e, x.meets)))))
        (λ h.
        let m = h.3.1.1 in
        let b = m.3 in
        let same : h.3.1.0 ≡ a = cc in
        let touches = subst (λ x. MayTouch (reach_of h.3.0) (reach_of x)) same m.4 in
        (m.2, (h.0, h.2, (h.1, (m.0, record { access = h.3.0; accesses = m.1; meets = touches })))))
        (Decided-both (kind_is (kind_at code at) kinds.Store)
        (some_below (λ k. (trigger < k) × ((kind_at code k ≡ Some kinds.Load) × Reaches code k a))
        (λ k. Decided-both (Decided-less trigger k)
        (Decided-both (kind_is (kind_at code k) kinds.Load) (Decided-Reaches code k a))) at))

wild_base : (code : List ℕ) (trigger at : ℕ) → Decided (Holds code trigger at WildBase)
wild_base code trigger at = Decided-both (Decided-less trigger at) (cases (access_at code at) refl)
  where
    cases : (o : Option MemAccess) → access_at code at ≡ o
        → Decided ((a : MemAccess) × (access_at code at ≡ Some a) × SetIn code trigger at a.base)
    cases None e = inr (λ h. let a = h.1 in cc)
    cases (Some a) e = Decided-equivalent
        (λ s. (a, e, s))
        (λ h. let b = h.1 in let same : h.0 ≡ a = cc in subst (λ x. SetIn code trigger at x.base) same h.2)
        (set_in code trigger at a.base)

Decided-Straight : (code : List ℕ) (from to : ℕ) → Decided (Straight code from to)
Decided-Straight code from to = Decided-equivalent
    (λ none k above below. (λ b. none (k, below, (above, inl b)), λ t. none (k, below, (above, inr t))))
    (λ s w. ⊎_elim (s w.0 w.2.0 w.1).0 (s w.0 w.2.0 w.1).1 w.2.1)
    (Decided-not
    (some_below (λ k. (from ≤ k) × ((kind_at code k ≡ Some kinds.Barrier) ⊎ (kind_at code k ≡ Some kinds.Turn)))
    (λ k. Decided-both (at_most from k)
    (Decided-or (kind_is (kind_at code k) kinds.Barrier) (kind_is (kind_at code k) kinds.Turn)))
    to))

Decided-Holds : (code : List ℕ) (trigger at : ℕ) (c : Condition) → Decided (Holds code trigger at c)
Decided-Holds code trigger at ZeroDestination =
    Decided-both (Decided-equal at trigger) (option_equal (destination_at code trigger) (Some 31))
Decided-Holds code trigger at SourceLost = source_lost code trigger at
Decided-Holds code trigger at SameDestination = Decided-equivalent
    (λ w. (w.0, w.1.0, w.1.1)) (λ w. (w.0, (w.1, w.2)))
    (Decided-both (Decided-less trigger at)
    (Decided-both (kind_is (kind_at code at) kinds.Trigger)
    (option_equal (destination_at code at) (destination_at code trigger))))
Decided-Holds code trigger at WildBase = wild_base code trigger at
Decided-Holds code trigger at LoadThenStore = load_then_store code trigger at
Decided-Holds code trigger at Locked = kind_is (kind_at code at) kinds.Locked
Decided-Holds code trigger at Turn = kind_is (kind_at code at) kinds.Turn
Decided-Holds code trigger at Open = Decided-equal at (length code)
Decided-Holds code trigger at Long = Decided-equivalent
    (λ w. (w.0, w.1.0, w.1.1)) (λ w. (w.0, (w.1, w.2)))
    (Decided-both (Decided-equal at (trigger + 1025))
    (Decided-both (Decided-less at (length code)) (Decided-not (kind_is (kind_at code at) kinds.Barrier))))

pub IsBroken-decided : (code : List ℕ) (trigger at : ℕ) (c : Condition) → Decided (IsBroken code trigger at c)
IsBroken-decided code trigger at c = Decided-equivalent
    (λ w. record { trigger_kind = w.0.0; order = w.0.1; straight = w.1.0; holds = w.1.1 })
    (λ b. ((b.trigger_kind, b.order), (b.straight, b.holds)))
    (Decided-both (Decided-both (kind_is (kind_at code trigger) kinds.Trigger) (at_most trigger at))
    (Decided-both (Decided-Straight code trigger at) (Decided-Holds code trigger at c)))

-- the least broken place

-- no place past the end is broken
pub IsBroken-not_past_end : (code : List ℕ) (trigger at : ℕ) (c : Condition) → length code < at
    → IsBroken code trigger at c → ⊥
IsBroken-not_past_end code trigger at ZeroDestination past b =
    let w = kind_within code trigger kinds.Trigger b.trigger_kind in
    omega (arith, b.holds.0)
IsBroken-not_past_end code trigger at SourceLost past b =
    let n = class_at-past_end code at (omega arith) in
    let s = b.holds.1 in
    cc
IsBroken-not_past_end code trigger at SameDestination past b =
    let n = class_at-past_end code at (omega arith) in
    let s = b.holds.1 in
    cc
IsBroken-not_past_end code trigger at WildBase past b =
    let n = class_at-past_end code at (omega arith) in
    let s = b.holds.1.1 in
    cc
IsBroken-not_past_end code trigger at LoadThenStore past b =
    let n = class_at-past_end code at (omega arith) in
    let s = b.holds.3.1.1.2 in
    cc
IsBroken-not_past_end code trigger at Locked past b =
    let n = class_at-past_end code at (omega arith) in
    let s = b.holds in
    cc
IsBroken-not_past_end code trigger at Turn past b =
    let n = class_at-past_end code at (omega arith) in
    let s = b.holds in
    cc
IsBroken-not_past_end code trigger at Open past b = let s = b.holds in omega arith
IsBroken-not_past_end code trigger at Long past b = let s = b.holds.1 in omega arith

-- broken under the condition with this number
record BrokenBy (code : List ℕ) (trigger at n : ℕ) : Type 0 where
  condition : Condition
  number : condition_number condition ≡ n
  broken : IsBroken code trigger at condition

broken_by : (code : List ℕ) (trigger at n : ℕ) → Decided (BrokenBy code trigger at n)
broken_by code trigger at n = Decided-equivalent
    (λ w. record { condition = condition_of_number n; number = w.0; broken = w.1 })
    (λ h.
    let same : h.condition ≡ condition_of_number n =
    sym (condition_of_number-condition_number h.condition) ∙ ap condition_of_number h.number in
    (ap condition_number (sym same) ∙ h.number, subst (IsBroken code trigger at) same h.broken))
    (Decided-both (Decided-equal (condition_number (condition_of_number n)) n)
    (IsBroken-decided code trigger at (condition_of_number n)))

-- a trigger breaks at a place, and some trigger does
abbrev BreaksAt : List ℕ → ℕ → ℕ → Type 0
BreaksAt code at trigger = (n : ℕ) × (n < 10) × BrokenBy code trigger at n

Decided-BreaksAt : (code : List ℕ) (at trigger : ℕ) → Decided (BreaksAt code at trigger)
Decided-BreaksAt code at trigger = some_below (BrokenBy code trigger at) (broken_by code trigger at) 10

abbrev AnyBreaks : List ℕ → ℕ → Type 0
AnyBreaks code at = (trigger : ℕ) × (trigger < at + 1) × BreaksAt code at trigger

breaks_by : (code : List ℕ) (trigger at : ℕ) (c : Condition) → IsBroken code trigger at c → BreaksAt code at trigger
breaks_by code trigger at c b =
    let n = number_bound c in
    (condition_number c, omega arith, record { condition = c; number = refl; broken = b })

any_breaks : (code : List ℕ) (trigger at : ℕ) (c : Condition) → IsBroken code trigger at c → AnyBreaks code at
any_breaks code trigger at c b = let o = b.order in (trigger, omega arith, breaks_by code trigger at c b)

assembled : (code : List ℕ) (at bound trigger n : ℕ) → IsLeast (AnyBreaks code) bound at
    → IsLeast (BreaksAt code at) (at + 1) trigger
    → IsLeast (BrokenBy code trigger at) 10 n → (b : Broken) × IsLeastBroken code b
assembled code at bound trigger n a t k = (
  record { trigger = trigger; at = at; condition = k.holds.condition },
  record {
    broken = k.holds.broken;
    least = λ p place c b.
        let above = a.least place (any_breaks code p place c b) in
        ⊎_elim
        (λ (l : at < place). inl l)
        (λ (l : place ≤ at).
        let e : at ≡ place = omega arith in
        let here = subst (λ m. IsBroken code p m c) (sym e) b in
        let first = t.least p (breaks_by code p at c here) in
        inr (
          e,
          ⊎_elim
              (λ (m : trigger < p). inl m)
              (λ (m : p ≤ trigger).
              let same : trigger ≡ p = omega arith in
              let low = k.least (condition_number c)
              (record { condition = c; number = refl; broken = subst (λ q. IsBroken code q at c) (sym same) here }) in
              let number = k.holds.number in
              inr (same, omega arith))
              (cases_lt trigger p),
        ))
        (cases_lt at place);
  },
)

pub IsAccepted-or_IsLeastBroken : (code : List ℕ) → IsAccepted code ⊎ ((b : Broken) × IsLeastBroken code b)
IsAccepted-or_IsLeastBroken code = ⊎_elim
    (λ (a : (at : ℕ) × IsLeast (AnyBreaks code) (length code + 1) at).
    ⊎_elim
    (λ (t : (trigger : ℕ) × IsLeast (BreaksAt code a.0) (a.0 + 1) trigger).
    ⊎_elim
    (λ (k : (n : ℕ) × IsLeast (BrokenBy code t.0 a.0) 10 n).
    inr (assembled code a.0 (length code + 1) t.0 k.0 a.1 t.1 k.1))
    (λ none. let h = t.1.holds in absurd (none h.0 h.1 h.2))
    (least_below (BrokenBy code t.0 a.0) (broken_by code t.0 a.0) 10))
    (λ none. let h = a.1.holds in absurd (none h.0 h.1 h.2))
    (least_below (BreaksAt code a.0) (Decided-BreaksAt code a.0) (a.0 + 1)))
    (λ none. inl (λ trigger at c b. ⊎_elim
    (λ (past : length code < at). IsBroken-not_past_end code trigger at c past b)
    (λ (within : at ≤ length code). none at (omega arith) (any_breaks code trigger at c b))
    (cases_lt (length code) at)))
    (least_below (AnyBreaks code) (λ at. some_below (BreaksAt code at) (Decided-BreaksAt code at) (at + 1))
    (length code + 1))
