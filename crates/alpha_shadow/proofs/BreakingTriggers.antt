-- The first trigger for which a place is broken, condition by condition.
use Rattle.std.proofs.Common.{◌≡◌, ◌≢◌, ◌<◌, ◌≤◌, ◌+◌, ◌⊎◌, ◌↔◌, ℕ, suc, Bool, true, false, Option, Some, None, List}
use Rattle.std.proofs.Common.{find, slice_get, slice_index, nat_le, nat_lt, ◌==◌, ap, sym, subst, ◌∙◌, refl, inl, inr}
use Rattle.std.proofs.Common.{⊎_elim, arith, eqb-true, eq-eqb, ◌∷◌, [], cond}
use Rattle.std.specs.Option.{option_map, option_or}
use Rattle.std.proofs.lemmas.Bool.{cases_eq, cases_lt, leb-true, le-leb, and_from, and_parts}
use Rattle.alpha_words.specs.Regs.{Has}
use Rattle.alpha_table.specs.declared.columns.InsnKind.TheVariants as kinds
use Rattle.alpha_table.specs.declared.columns.MemAccess.{MemAccess}
use Rattle.alpha_shadow.specs.declared.broken.Condition.{Condition}
use Rattle.alpha_shadow.specs.declared.broken.Condition.TheVariants.{ZeroDestination, SourceLost, SameDestination}
use Rattle.alpha_shadow.specs.declared.broken.Condition.TheVariants.{WildBase, LoadThenStore, Locked, Turn}
use Rattle.alpha_shadow.specs.declared.columns.Columns.{Columns}
use Rattle.alpha_shadow.specs.declared.triggers.Trigger.{Trigger}
use Rattle.alpha_shadow.specs.declared.window.Window.{Window}
use Rattle.alpha_shadow.specs.Code.{kind_at, access_at, destination_at, sets_at, Sets, Uses, SetIn, ExposedIn}
use Rattle.alpha_shadow.specs.Columns.{HasColumns, destination_of}
use Rattle.alpha_table.specs.Code.{Straight}
use Rattle.alpha_shadow.specs.Broken.{Holds, IsBroken}
use Rattle.alpha_shadow.specs.Window.{Summarizes, IsUnbroken, IsOpen, IsFirstThat, LoadTouches, UsedIn, place_of}
use Rattle.alpha_shadow.specs.Window.{stands_within, open_triggers}
use Rattle.alpha_shadow.specs.Reach.{MayTouch, reach_of}
use Rattle.alpha_shadow.specs.Place.{IsFirstBroken}
use Rattle.alpha_shadow.proofs.WordColumns.{trigger_destination}
use Rattle.alpha_shadow.proofs.Shadows.{FindsTrigger-open_triggers, FindsTrigger-IsFirstThat, IsFirstThat-open_triggers}

-- a broken place behind its trigger is one of an open trigger
pub IsBroken-IsOpen : (code : List ℕ) (p at : ℕ) (c : Condition) → IsBroken code p at c → p ≢ at → IsOpen code p at
IsBroken-IsOpen code p at c b not =
    record { kind = b.trigger_kind; before = let o = b.order in omega arith; straight = b.straight }

pub IsOpen-IsBroken : (code : List ℕ) (p at : ℕ) (c : Condition) → IsOpen code p at → Holds code p at c
    → IsBroken code p at c
IsOpen-IsBroken code p at c o h =
    record { trigger_kind = o.kind; order = let b = o.before in omega arith; straight = o.straight; holds = h }

-- where the condition is a fact of the open triggers, the first with that fact is the first broken one
pub IsFirstBroken-IsFirstThat : (code : List ℕ) (at : ℕ) (c : Condition) (P : ℕ → Type 0)
    → ((p : ℕ) → IsOpen code p at → P p → Holds code p at c)
    → ((p : ℕ) → IsBroken code p at c → IsOpen code p at × P p) → (o : Option ℕ) → IsFirstThat code at P o
    → IsFirstBroken code at c o
IsFirstBroken-IsFirstThat code at c P to from None f = λ p b. let w = from p b in f p w.0 w.1
IsFirstBroken-IsFirstThat code at c P to from (Some first) f =
    (IsOpen-IsBroken code first at c f.0 (to first f.0 f.1), λ p b. let w = from p b in f.2 p w.0 w.1)

-- the first trigger stands for all, where the fact holds of each trigger before one for which it holds
pub IsFirstThat-first_has : (code : List ℕ) (at : ℕ) (P : ℕ → Type 0) (first : ℕ)
    → IsFirstThat code at (λ p. Unit {0}) (Some first)
    → P first → IsFirstThat code at P (Some first)
IsFirstThat-first_has code at P first f holds = (f.0, holds, λ p h q. f.2 p h tt)

pub IsFirstThat-first_lacks : (code : List ℕ) (at : ℕ) (P : ℕ → Type 0) (first : ℕ)
    → IsFirstThat code at (λ p. Unit {0}) (Some first)
    → ((p : ℕ) → first ≤ p → P p → P first) → (P first → ⊥) → IsFirstThat code at P None
IsFirstThat-first_lacks code at P first f falls not = λ p h q. not (falls p (f.2 p h tt) q)

-- what the window's look-ups say

pub IsFirstThat-window_first : (code : List ℕ) (w : Window) (at : ℕ) → Summarizes code w at → (o : Option ℕ)
    → o ≡ option_map place_of (slice_get w.triggers.items 0)
    → IsFirstThat code at (λ p. Unit {0}) o
IsFirstThat-window_first code w at s o e = rw (e, s.triggers) (IsFirstThat-open_triggers code at)

pub IsFirstThat-window_within : (code : List ℕ) (w : Window) (at from to : ℕ) → Summarizes code w at → (o : Option ℕ)
    → o ≡ option_map place_of (find (stands_within from to) w.triggers.items)
    → IsFirstThat code at (λ p. (from ≤ p) × (p < to)) o
IsFirstThat-window_within code w at from to s o e =
    rw (e, s.triggers) (FindsTrigger-IsFirstThat code at (stands_within from to) (λ p. (from ≤ p) × (p < to))
    (λ p t. let q = and_parts (nat_le from p) (nat_lt p to) t in (leb-true from p q.0, leb-true (suc p) to q.1))
    (λ p q. and_from (nat_le from p) (nat_lt p to) (le-leb from p q.0) (le-leb (suc p) to q.1))
    (find (stands_within from to) (open_triggers code at)) (FindsTrigger-open_triggers code (stands_within from to) at))

-- no place is in an empty range
pub find-empty_range : (from to : ℕ) → to ≤ from → (ts : List Trigger) → find (stands_within from to) ts ≡ None
find-empty_range from to empty [] = refl
find-empty_range from to empty (t ∷ ts) = cases (find-empty_range from to empty ts) (stands_within from to t) refl
  where
    cases : find (stands_within from to) ts ≡ None → (b : Bool) → stands_within from to t ≡ b
        → cond b (Some t) (find (stands_within from to) ts) ≡ None
    cases rest true e =
        let q = and_parts (nat_le from t.place) (nat_lt t.place to) e in
        let a = leb-true from t.place q.0 in
        let b = leb-true (suc t.place) to q.1 in
        absurd (omega arith)
    cases rest false e = rest

pub IsFirstThat-window_destination : (code : List ℕ) (w : Window) (at d : ℕ) → Summarizes code w at → (o : Option ℕ)
    → o ≡ option_map place_of (find (λ t. t.destination == d) w.triggers.items)
    → IsFirstThat code at (λ p. destination_of code p ≡ d) o
IsFirstThat-window_destination code w at d s o e =
    rw (e, s.triggers) (FindsTrigger-IsFirstThat code at (λ t. t.destination == d) (λ p. destination_of code p ≡ d)
    (λ p t. eqb-true (destination_of code p) d t)
    (λ p q. eq-eqb (destination_of code p) d q)
    (find (λ t. t.destination == d) (open_triggers code at))
    (FindsTrigger-open_triggers code (λ t. t.destination == d) at))

-- C1

pub ZeroDestination-found : (code : List ℕ) (at : ℕ) → kind_at code at ≡ Some kinds.Trigger
    → destination_of code at ≡ 31
    → IsFirstBroken code at ZeroDestination (Some at)
ZeroDestination-found code at k e = (
  record {
    trigger_kind = k;
    order = omega arith;
    straight = λ n above below. absurd (omega arith);
    holds = (refl, trigger_destination code at k ∙ ap Some e);
  },
  λ p b. let h = b.holds.0 in omega arith,
)

pub ZeroDestination-missing : (code : List ℕ) (at : ℕ)
    → ((kind_at code at ≡ Some kinds.Trigger) × (destination_of code at ≡ 31) → ⊥)
    → IsFirstBroken code at ZeroDestination None
ZeroDestination-missing code at not = λ p b.
    let k = subst (λ n. kind_at code n ≡ Some kinds.Trigger) (sym b.holds.0) b.trigger_kind in
    let d = subst (λ n. destination_at code n ≡ Some 31) (sym b.holds.0) b.holds.1 in
    let t = trigger_destination code at k in
    not (k, cc)

-- C2

-- Where nothing before is broken, no word from an open trigger on has set a register that the word sets and the shadow
-- uses: the use would have been lost there already, or is itself behind that word.
lost_unset : (code : List ℕ) (at p r : ℕ) → IsUnbroken code at → kind_at code p ≡ Some kinds.Trigger
    → Straight code p at → ExposedIn code p (at + 1) r → SetIn code p at r → ⊥
lost_unset code at p r unbroken k s x set = ⊎_elim
    (λ (before : set.place < x.place).
    x.unset (record { place = set.place; above = set.above; below = before; sets = set.sets }))
    (λ (behind : x.place ≤ set.place).
    let below = set.below in
    let above = set.above in
    unbroken p set.place SourceLost set.below (record {
      trigger_kind = k;
      order = above;
      straight = λ n from to. s n from (omega arith);
      holds = (
        r,
        set.sets,
        record { place = x.place; above = x.above; below = omega arith; uses = x.uses; unset = x.unset },
      );
    }))
    (cases_lt set.place x.place)

-- the shadow, or the word itself, uses a register that the word sets and nothing before has set
pub record IsLost (code : List ℕ) (at r p : ℕ) : Type 0 where
  pub unset : SetIn code p at r → ⊥
  pub used : UsedIn code p at r ⊎ Uses code at r

lost_holds : (code : List ℕ) (at p r : ℕ) → p ≤ at → Sets code at r → IsLost code at r p → Holds code p at SourceLost
lost_holds code at p r within sets l = (
  r,
  sets,
  ⊎_elim
      (λ (u : UsedIn code p at r). record {
        place = u.place;
        above = u.above;
        below = let b = u.below in omega arith;
        uses = u.uses;
        unset = λ s. l.unset (record {
          place = s.place;
          above = s.above;
          below = let b = u.below in let c = s.below in omega arith;
          sets = s.sets;
        });
      })
      (λ (u : Uses code at r). record { place = at; above = within; below = omega arith; uses = u; unset = l.unset })
      l.used,
)

holds_lost : (code : List ℕ) (at p r : ℕ) → IsUnbroken code at → Sets code at r → IsBroken code p at SourceLost
    → IsLost code at r p
holds_lost code at p r unbroken sets b =
    let h = b.holds in
    let again = h.1 in
    let same : h.0 ≡ r = cc in
    let x = subst (ExposedIn code p (at + 1)) same h.2 in
    record {
      unset = lost_unset code at p r unbroken b.trigger_kind b.straight x;
      used = ⊎_elim
          (λ (e : x.place ≡ at). inr (subst (λ n. Uses code n r) e x.uses))
          (λ (e : x.place ≡ at → ⊥).
          inl (record { place = x.place; above = x.above; below = let c = x.below in omega arith; uses = x.uses }))
          (cases_eq x.place at);
    }

-- what was noted of the register, for an open trigger
lost_noted : (code : List ℕ) (w : Window) (at p r : ℕ) → Summarizes code w at → r < 32 → IsOpen code p at
    → IsLost code at r p ↔ ((slice_index w.set.ends r ≤ p) × ((p < slice_index w.used.ends r) ⊎ Uses code at r))
lost_noted code w at p r s small o =
    let set = s.set.tells p r o small in
    let used = s.used.tells p r o small in (
      λ l. (
        ⊎_elim (λ (q : slice_index w.set.ends r ≤ p). q)
            (λ (q : p < slice_index w.set.ends r). absurd (l.unset (set.1 q)))
            (cases_lt_or p (slice_index w.set.ends r)),
        ⊎_elim (λ u. inl (used.0 u)) (λ u. inr u) l.used,
      ),
      λ h. record {
        unset = λ q. let k = set.0 q in let a = h.0 in omega arith;
        used = ⊎_elim (λ u. inl (used.1 u)) (λ u. inr u) h.1;
      },
    )
  where
    cases_lt_or : (a b : ℕ) → (b ≤ a) ⊎ (a < b)
    cases_lt_or a b = ⊎_elim (λ (q : a < b). inr q) (λ (q : b ≤ a). inl q) (cases_lt a b)

-- where the look-up ends: all open triggers stand before the word, which may use the register itself
pub record IsLookupEnd (code : List ℕ) (w : Window) (at r end : ℕ) : Type 0 where
  pub either : (Uses code at r × (end ≡ at)) ⊎ ((Uses code at r → ⊥) × (end ≡ slice_index w.used.ends r))

-- the word sets this register, and nothing before is broken
pub record MayLose (code : List ℕ) (w : Window) (at r end : ℕ) : Type 0 where
  pub summary : Summarizes code w at
  pub unbroken : IsUnbroken code at
  pub sets : Sets code at r
  pub small : r < 32
  pub end_is : IsLookupEnd code w at r end

pub source_lost-first : (code : List ℕ) (w : Window) (at r end : ℕ) (word : Columns) → Summarizes code w at
    → IsUnbroken code at
    → HasColumns code at word
    → word.sets ≡ Some r → r < 32
    → (Has word.uses r × (end ≡ at)) ⊎ ((Has word.uses r → ⊥) × (end ≡ slice_index w.used.ends r))
    → MayLose code w at r end
source_lost-first code w at r end word s unbroken h e small either = record {
  summary = s;
  unbroken = unbroken;
  sets = h.sets ∙ e;
  small = small;
  end_is = record {
    either = ⊎_elim (λ q. inl ((h.uses r).0 q.0, q.1)) (λ q. inr (λ u. q.0 ((h.uses r).1 u), q.1)) either;
  };
}

pub SourceLost-no_set : (code : List ℕ) (at : ℕ) → sets_at code at ≡ None → IsFirstBroken code at SourceLost None
SourceLost-no_set code at e = λ p b. let again = b.holds.1 in cc

lost_within : (code : List ℕ) (w : Window) (at r end p : ℕ) → MayLose code w at r end → IsOpen code p at
    → IsLost code at r p ↔ ((slice_index w.set.ends r ≤ p) × (p < end))
lost_within code w at r end p m o =
    let noted = lost_noted code w at p r m.summary m.small o in
    let before = o.before in (
      λ l. let h = noted.0 l in (
        h.0,
        ⊎_elim
            (λ q. let e = q.1 in omega arith)
            (λ q. let e = q.1 in ⊎_elim (λ u. omega arith) (λ u. absurd (q.0 u)) h.1)
            m.end_is.either,
      ),
      λ h. let b = h.1 in noted.1 (h.0, ⊎_elim (λ q. inr q.0) (λ q. let e = q.1 in inl (omega arith)) m.end_is.either),
    )

lost_open : (code : List ℕ) (w : Window) (at r end p : ℕ) → MayLose code w at r end → IsOpen code p at
    → IsBroken code p at SourceLost ↔ ((slice_index w.set.ends r ≤ p) × (p < end))
lost_open code w at r end p m o =
    let within = lost_within code w at r end p m o in (
      λ b. within.0 (holds_lost code at p r m.unbroken m.sets b),
      λ h. IsOpen-IsBroken code p at SourceLost o
          (lost_holds code at p r (let b = o.before in omega arith) m.sets (within.1 h)),
    )

-- the trigger is the word itself
lost_here : (code : List ℕ) (w : Window) (at r end p : ℕ) → MayLose code w at r end → IsBroken code p at SourceLost
    → p ≡ at
    → (kind_at code at ≡ Some kinds.Trigger) × Uses code at r
lost_here code w at r end p m b e = (
  subst (λ n. kind_at code n ≡ Some kinds.Trigger) e b.trigger_kind,
  ⊎_elim (λ (u : UsedIn code p at r). let a = u.above in let c = u.below in absurd (omega arith)) (λ u. u)
      (holds_lost code at p r m.unbroken m.sets b).used,
)

pub SourceLost-found : (code : List ℕ) (w : Window) (at r end first : ℕ) → MayLose code w at r end
    → IsFirstThat code at (λ p. (slice_index w.set.ends r ≤ p) × (p < end)) (Some first)
    → IsFirstBroken code at SourceLost (Some first)
SourceLost-found code w at r end first m f = (
  (lost_open code w at r end first m f.0).1 f.1,
  λ p b. ⊎_elim
      (λ (e : p ≡ at). let before = f.0.before in omega arith)
      (λ not. let o = IsBroken-IsOpen code p at SourceLost b not in f.2 p o ((lost_open code w at r end p m o).0 b))
      (cases_eq p at),
)

pub SourceLost-by_itself : (code : List ℕ) (w : Window) (at r end : ℕ) → MayLose code w at r end
    → kind_at code at ≡ Some kinds.Trigger → Uses code at r
    → IsFirstThat code at (λ p. (slice_index w.set.ends r ≤ p) × (p < end)) None
    → IsFirstBroken code at SourceLost (Some at)
SourceLost-by_itself code w at r end m k u f = (
  record {
    trigger_kind = k;
    order = omega arith;
    straight = λ n above below. absurd (omega arith);
    holds =
        lost_holds code at at r (omega arith) m.sets
        (record { unset = λ s. let a = s.above in let b = s.below in omega arith; used = inr u });
  },
  λ p b. ⊎_elim
      (λ (e : p ≡ at). omega arith)
      (λ not. let o = IsBroken-IsOpen code p at SourceLost b not in
      absurd (f p o ((lost_open code w at r end p m o).0 b)))
      (cases_eq p at),
)

pub SourceLost-missing : (code : List ℕ) (w : Window) (at r end : ℕ) → MayLose code w at r end
    → ((kind_at code at ≡ Some kinds.Trigger) × Uses code at r → ⊥)
    → IsFirstThat code at (λ p. (slice_index w.set.ends r ≤ p) × (p < end)) None → IsFirstBroken code at SourceLost None
SourceLost-missing code w at r end m not f = λ p b. ⊎_elim
    (λ (e : p ≡ at). not (lost_here code w at r end p m b e))
    (λ apart. let o = IsBroken-IsOpen code p at SourceLost b apart in f p o ((lost_open code w at r end p m o).0 b))
    (cases_eq p at)

-- the word is a trigger that uses the register
pub SourceLost-or_itself : (code : List ℕ) (w : Window) (at r end : ℕ) → MayLose code w at r end
    → kind_at code at ≡ Some kinds.Trigger → Uses code at r
    → (o : Option ℕ) → IsFirstThat code at (λ p. (slice_index w.set.ends r ≤ p) × (p < end)) o
    → IsFirstBroken code at SourceLost (option_or o (Some at))
SourceLost-or_itself code w at r end m k u None f = SourceLost-by_itself code w at r end m k u f
SourceLost-or_itself code w at r end m k u (Some first) f = SourceLost-found code w at r end first m f

-- the word is no trigger that uses the register
pub SourceLost-first : (code : List ℕ) (w : Window) (at r end : ℕ) → MayLose code w at r end
    → ((kind_at code at ≡ Some kinds.Trigger) × Uses code at r → ⊥)
    → (o : Option ℕ) → IsFirstThat code at (λ p. (slice_index w.set.ends r ≤ p) × (p < end)) o
    → IsFirstBroken code at SourceLost o
SourceLost-first code w at r end m not None f = SourceLost-missing code w at r end m not f
SourceLost-first code w at r end m not (Some first) f = SourceLost-found code w at r end first m f

-- C3

pub SameDestination-found : (code : List ℕ) (at d : ℕ) → kind_at code at ≡ Some kinds.Trigger
    → destination_of code at ≡ d
    → (o : Option ℕ) → IsFirstThat code at (λ p. destination_of code p ≡ d) o → IsFirstBroken code at SameDestination o
SameDestination-found code at d k e = IsFirstBroken-IsFirstThat code at SameDestination (λ p. destination_of code p ≡ d)
    (λ p o same.
    (o.before, k, trigger_destination code at k ∙ (ap Some (e ∙ sym same) ∙ sym (trigger_destination code p o.kind))))
    (λ p b.
    let before = b.holds.0 in
    let o = IsBroken-IsOpen code p at SameDestination b (λ n. omega arith) in
    let t = trigger_destination code at k in
    let u = trigger_destination code p o.kind in
    let h = b.holds.2 in
    (o, cc))

pub SameDestination-missing : (code : List ℕ) (at : ℕ) → kind_at code at ≢ Some kinds.Trigger
    → IsFirstBroken code at SameDestination None
SameDestination-missing code at not = λ p b. not b.holds.1

-- C4

pub WildBase-first_open : (code : List ℕ) (w : Window) (at : ℕ) (a : MemAccess) → Summarizes code w at → a.base < 32
    → access_at code at ≡ Some a
    → (o : Option ℕ) → IsFirstThat code at (λ p. p < slice_index w.set.ends a.base) o → IsFirstBroken code at WildBase o
WildBase-first_open code w at a s small e =
    IsFirstBroken-IsFirstThat code at WildBase (λ p. p < slice_index w.set.ends a.base)
    (λ p o q. (o.before, (a, e, (s.set.tells p a.base o small).1 q)))
    (λ p b.
    let before = b.holds.0 in
    let o = IsBroken-IsOpen code p at WildBase b (λ n. omega arith) in
    let h = b.holds.1 in
    let again = h.1 in
    let same : h.0 ≡ a = cc in
    (o, (s.set.tells p a.base o small).0 (subst (λ x. SetIn code p at x.base) same h.2)))

pub WildBase-no_access : (code : List ℕ) (at : ℕ) → access_at code at ≡ None → IsFirstBroken code at WildBase None
WildBase-no_access code at e = λ p b. let again = b.holds.1.1 in cc

-- C5

store_touches : (code : List ℕ) (at p : ℕ) (a : MemAccess) → access_at code at ≡ Some a → IsOpen code p at
    → Holds code p at LoadThenStore → LoadTouches code at (reach_of a)
store_touches code at p a e o m =
    let here = m.3.1.1 in
    let again = here.3 in
    let same : m.3.1.0 ≡ a = cc in record {
      trigger = p;
      open_there = o;
      place = m.0;
      above = m.1;
      below = m.2;
      load = here.0;
      access = m.3.0;
      accesses = here.1;
      touches = subst (λ x. MayTouch (reach_of m.3.0) (reach_of x)) same here.4;
    }

touches_store : (code : List ℕ) (at p : ℕ) (a : MemAccess) → kind_at code at ≡ Some kinds.Store
    → access_at code at ≡ Some a
    → (t : LoadTouches code at (reach_of a)) → p ≤ t.trigger → Holds code p at LoadThenStore
touches_store code at p a k e t within =
    let above = t.above in
    (t.place, omega arith, t.below, (t.access, (a, (t.load, t.accesses, k, e, t.touches))))

store_first : (code : List ℕ) (at : ℕ) (o : Option ℕ) → IsFirstThat code at (λ p. Holds code p at LoadThenStore) o
    → IsFirstBroken code at LoadThenStore o
store_first code at = IsFirstBroken-IsFirstThat code at LoadThenStore (λ p. Holds code p at LoadThenStore)
    (λ p o m. m)
    (λ p b.
    (IsBroken-IsOpen code p at LoadThenStore b (λ n. let x = b.holds.1 in let y = b.holds.2 in omega arith), b.holds))

pub LoadThenStore-found : (code : List ℕ) (at : ℕ) (a : MemAccess) → kind_at code at ≡ Some kinds.Store
    → access_at code at ≡ Some a
    → LoadTouches code at (reach_of a) → (o : Option ℕ) → IsFirstThat code at (λ p. Unit {0}) o
    → IsFirstBroken code at LoadThenStore o
LoadThenStore-found code at a k e t None f = absurd (f t.trigger t.open_there tt)
LoadThenStore-found code at a k e t (Some first) f = store_first code at (Some first)
    (IsFirstThat-first_has code at (λ p. Holds code p at LoadThenStore) first f
    (touches_store code at first a k e t (f.2 t.trigger t.open_there tt)))

pub LoadThenStore-missing : (code : List ℕ) (at : ℕ) (a : MemAccess) → access_at code at ≡ Some a
    → (LoadTouches code at (reach_of a) → ⊥)
    → IsFirstBroken code at LoadThenStore None
LoadThenStore-missing code at a e not = store_first code at None (λ p o m. not (store_touches code at p a e o m))

pub LoadThenStore-no_store : (code : List ℕ) (at : ℕ)
    → ((kind_at code at ≡ Some kinds.Store) × (access_at code at ≢ None) → ⊥)
    → IsFirstBroken code at LoadThenStore None
LoadThenStore-no_store code at not =
    store_first code at None (λ p o m. let here = m.3.1.1 in not (here.2, λ e. let again = here.3 in cc))

-- C6 and C7

pub locked_first : (code : List ℕ) (at : ℕ) → kind_at code at ≡ Some kinds.Locked → (o : Option ℕ)
    → IsFirstThat code at (λ p. Unit {0}) o → IsFirstBroken code at Locked o
locked_first code at k = IsFirstBroken-IsFirstThat code at Locked (λ p. Unit {0})
    (λ p o u. k)
    (λ p b. (
      IsBroken-IsOpen code p at Locked b
          (λ n. let t = subst (λ m. kind_at code m ≡ Some kinds.Trigger) n b.trigger_kind in cc),
      tt,
    ))

pub turn_first : (code : List ℕ) (at : ℕ) → kind_at code at ≡ Some kinds.Turn → (o : Option ℕ)
    → IsFirstThat code at (λ p. Unit {0}) o → IsFirstBroken code at Turn o
turn_first code at k = IsFirstBroken-IsFirstThat code at Turn (λ p. Unit {0})
    (λ p o u. k)
    (λ p b. (
      IsBroken-IsOpen code p at Turn b
          (λ n. let t = subst (λ m. kind_at code m ≡ Some kinds.Trigger) n b.trigger_kind in cc),
      tt,
    ))

pub locked_missing : (code : List ℕ) (at : ℕ) → kind_at code at ≢ Some kinds.Locked → IsFirstBroken code at Locked None
locked_missing code at not = λ p b. not b.holds

pub turn_missing : (code : List ℕ) (at : ℕ) → kind_at code at ≢ Some kinds.Turn → IsFirstBroken code at Turn None
turn_missing code at not = λ p b. not b.holds

-- no trigger is open
pub WildBase-none_open : (code : List ℕ) (at : ℕ) → IsFirstThat code at (λ p. Unit {0}) None
    → IsFirstBroken code at WildBase None
WildBase-none_open code at f =
    λ p b. let e = b.holds.0 in
    f p (IsBroken-IsOpen code p at WildBase b (λ n. omega arith)) tt
