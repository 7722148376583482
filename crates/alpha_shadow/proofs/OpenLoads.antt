-- The loads after the first open trigger, word by word.
use Rattle.std.proofs.Common.{◌≡◌, ◌≢◌, ◌<◌, ◌≤◌, ◌+◌, ◌⊎◌, ◌↔◌, ℕ, zero, suc, Option, Some, None, List, [], ◌∷◌, ◌++◌}
use Rattle.std.proofs.Common.{length, slice_get, sym, subst, ◌∙◌, refl, inl, inr, ⊎_elim, arith, add-one, length-append}
use Rattle.std.specs.List.{Any}
use Rattle.std.proofs.lemmas.Bool.{cases_eq, cases_lt}
use Rattle.std.proofs.lemmas.List.{get_or_push}
use Rattle.std.proofs.lemmas.List.Quantifiers.{Any-push}
use Rattle.std.proofs.Math.ListN.{get_or-append}
use Rattle.alpha_table.specs.declared.columns.InsnKind.{InsnKind}
use Rattle.alpha_table.specs.declared.columns.InsnKind.TheVariants as kinds
use Rattle.alpha_table.specs.declared.columns.MemAccess.{MemAccess}
use Rattle.alpha_shadow.specs.declared.triggers.Trigger.{Trigger}
use Rattle.alpha_shadow.specs.declared.loads.Reach.{Reach}
use Rattle.alpha_shadow.specs.Code.{kind_at, access_at}
use Rattle.alpha_shadow.specs.Window.{IsOpen, LoadTouches, trigger_at, next_triggers, open_triggers, one_more_load}
use Rattle.alpha_shadow.specs.Window.{next_loads, open_loads}
use Rattle.alpha_shadow.specs.Reach.{reach_of, MayTouch}
use Rattle.alpha_shadow.proofs.Shadows.{ShadowContinues, IsOpen-ShadowContinues, IsOpen-suc, IsOpen-suc_cases}
use Rattle.alpha_shadow.proofs.Shadows.{open_triggers-IsOpen, open_triggers-nil}

-- the loads after one more word
pub open_loads_next : (code : List ℕ) (at : ℕ) (kind : InsnKind) (access : Option MemAccess)
    → kind_at code at ≡ Some kind → access_at code at ≡ access
    → open_loads code (at + 1) ≡ next_loads (Some kind) access (open_triggers code at) (open_loads code at)
unfolding open_loads
open_loads_next code at kind access e f = rw (add-one, e, f) refl

-- where no trigger is open no load is held
pub no_loads : (code : List ℕ) (at : ℕ) → open_triggers code at ≡ [] → open_loads code at ≡ []
unfolding open_triggers open_loads
no_loads code zero e = refl
no_loads code (suc n) e = by_kind (no_loads code n) (kind_at code n) refl e
  where
    one : (a : Option MemAccess) → open_triggers code n ≡ [] → (open_triggers code n ≡ [] → open_loads code n ≡ [])
        → one_more_load a (open_triggers code n) (open_loads code n) ≡ []
    one None e before = before e
    one (Some a) e before = rw e (before e)

    not_nil : (ts : List Trigger) (t : Trigger) → ts ++ t ∷ [] ≡ [] → ⊥
    not_nil [] t e = cc
    not_nil (x ∷ xs) t e = cc

    by_kind : (open_triggers code n ≡ [] → open_loads code n ≡ []) → (k : Option InsnKind) → kind_at code n ≡ k
        → next_triggers k (trigger_at code n) (open_triggers code n) ≡ []
        → next_loads k (access_at code n) (open_triggers code n) (open_loads code n) ≡ []
    by_kind before (Some kinds.Barrier) k e = refl
    by_kind before (Some kinds.Turn) k e = refl
    by_kind before (Some kinds.Trigger) k e = absurd (not_nil (open_triggers code n) (trigger_at code n) e)
    by_kind before (Some kinds.Plain) k e = before e
    by_kind before (Some kinds.Load) k e = one (access_at code n) e before
    by_kind before (Some kinds.Store) k e = before e
    by_kind before (Some kinds.Locked) k e = before e
    by_kind before None k e = before e

any_nil : {X : Type 0} (P : X → Type 0) → Any P [] → ⊥
any_nil P h = let b = h.2 in omega arith

any_snoc : {X : Type 0} (P : X → Type 0) (xs : List X) (x : X) → Any P (xs ++ x ∷ []) ↔ (Any P xs ⊎ P x)
any_snoc {X = X} P xs x = (
  λ h. ⊎_elim
      (λ (w : h.0 < length xs). inl (h.0, h.1, w, sym (get_or-append xs (x ∷ []) h.1 h.0 w) ∙ h.3, h.4))
      (λ (w : length xs ≤ h.0).
      let n : length xs ≡ h.0 = let b = h.2 in omega (arith, length-append xs (x ∷ [])) in
      inr (subst P (sym h.3 ∙ get_or_push xs x h.1 h.0 n) h.4))
      (cases_lt h.0 (length xs)),
  ⊎_elim
      (λ (h : Any P xs). (
        h.0,
        h.1,
        let b = h.2 in omega (arith, length-append xs (x ∷ [])),
        get_or-append xs (x ∷ []) h.1 h.0 h.2 ∙ h.3,
        h.4,
      ))
      (λ (h : P x). Any-push P xs x h),
)

-- the open loads are those after an open trigger
pub any_open_load : (code : List ℕ) (store : Reach) (at : ℕ)
    → Any (λ load. MayTouch load store) (open_loads code at) ↔ LoadTouches code at store
unfolding open_loads
any_open_load code store zero = (λ h. absurd (any_nil _ h), λ l. let b = l.below in absurd (omega arith))
any_open_load code store (suc n) = by_kind (any_open_load code store n) (kind_at code n) refl
  where
    P : Reach → Type 0
    P load = MayTouch load store

    later : ShadowContinues code n → LoadTouches code n store → LoadTouches code (suc n) store
    later on l = record {
      trigger = l.trigger;
      open_there = IsOpen-suc code n l.trigger on l.open_there;
      place = l.place;
      above = l.above;
      below = let b = l.below in omega arith;
      load = l.load;
      access = l.access;
      accesses = l.accesses;
      touches = l.touches;
    }

    earlier_open : (l : LoadTouches code (suc n) store) → IsOpen code l.trigger n
    earlier_open l =
        ⊎_elim (λ o. o) (λ w. let a = l.above in let b = l.below in absurd (omega (arith, w.0)))
        (IsOpen-suc_cases code n l.trigger l.open_there)

    earlier : (l : LoadTouches code (suc n) store) → l.place ≢ n → LoadTouches code n store
    earlier l not = record {
      trigger = l.trigger;
      open_there = earlier_open l;
      place = l.place;
      above = l.above;
      below = let b = l.below in omega arith;
      load = l.load;
      access = l.access;
      accesses = l.accesses;
      touches = l.touches;
    }

    still : Any P (open_loads code n) ↔ LoadTouches code n store → ShadowContinues code n
        → kind_at code n ≢ Some kinds.Load → Any P (open_loads code n) ↔ LoadTouches code (suc n) store
    still before on not = (
      λ h. later on (before.0 h),
      λ l. before.1 (earlier l (λ e. not (subst (λ k. kind_at code k ≡ Some kinds.Load) e l.load))),
    )

    ended : (ShadowContinues code n → ⊥) → Any P [] ↔ LoadTouches code (suc n) store
    ended not = (λ h. absurd (any_nil P h), λ l. absurd (not (IsOpen-ShadowContinues code n l.trigger l.open_there)))

    -- one more load
    more : Any P (open_loads code n) ↔ LoadTouches code n store → kind_at code n ≡ Some kinds.Load
        → (a : Option MemAccess) → access_at code n ≡ a
        → (ts : List Trigger) → open_triggers code n ≡ ts
        → Any P (one_more_load a ts (open_loads code n)) ↔ LoadTouches code (suc n) store
    more before e None f ts g = (
      λ h. later (λ b. cc, λ t. cc) (before.0 h),
      λ l. before.1 (earlier l (λ same. let q = subst (λ k. access_at code k ≡ Some l.access) same l.accesses in cc)),
    )
    more before e (Some a) f [] g = (
      λ h. later (λ b. cc, λ t. cc) (before.0 h),
      λ l. absurd (open_triggers-nil code n g l.trigger (earlier_open l)),
    )
    more before e (Some a) f (t ∷ ts) g = (
      λ h. ⊎_elim
          (λ q. later (λ b. cc, λ t. cc) (before.0 q))
          (λ q. let there = open_triggers-IsOpen code n t ts g in record {
            trigger = t.place;
            open_there = IsOpen-suc code n t.place (λ b. cc, λ t. cc) there;
            place = n;
            above = there.before;
            below = omega arith;
            load = e;
            access = a;
            accesses = f;
            touches = q;
          })
          ((any_snoc P (open_loads code n) (reach_of a)).0 h),
      λ l. (any_snoc P (open_loads code n) (reach_of a)).1 (⊎_elim
          (λ (same : l.place ≡ n).
          let q = subst (λ k. access_at code k ≡ Some l.access) same l.accesses in
          let r : l.access ≡ a = cc in
          inr (subst (λ x. MayTouch (reach_of x) store) r l.touches))
          (λ not. inl (before.1 (earlier l not)))
          (cases_eq l.place n)),
    )

    by_kind : Any P (open_loads code n) ↔ LoadTouches code n store → (k : Option InsnKind) → kind_at code n ≡ k
        → Any P (next_loads k (access_at code n) (open_triggers code n) (open_loads code n))
        ↔ LoadTouches code (suc n) store
    by_kind before (Some kinds.Barrier) e = ended (λ on. on.0 e)
    by_kind before (Some kinds.Turn) e = ended (λ on. on.1 e)
    by_kind before (Some kinds.Load) e = more before e (access_at code n) refl (open_triggers code n) refl
    by_kind before (Some kinds.Trigger) e = still before (λ b. cc, λ t. cc) (λ t. cc)
    by_kind before x e = still before (λ b. cc, λ t. cc) (λ t. cc)

-- the open loads stand after the first trigger, at different places
pub loads_room : (code : List ℕ) (at : ℕ) (f : Trigger) → slice_get (open_triggers code at) 0 ≡ Some f
    → f.place + 1 + length (open_loads code at) ≤ at
unfolding open_triggers open_loads
loads_room code zero f e = cc
loads_room code (suc n) f e = by_kind (loads_room code n) (no_loads code n) (kind_at code n) refl e
  where
    begun : (ts : List Trigger) (ls : List Reach) → (ts ≡ [] → ls ≡ [])
        → ((f : Trigger) → slice_get ts 0 ≡ Some f → f.place + 1 + length ls ≤ n)
        → slice_get (ts ++ trigger_at code n ∷ []) 0 ≡ Some f → f.place + 1 + length ls ≤ suc n
    begun [] ls none before e = let same : f ≡ trigger_at code n = cc in rw (same, none refl) (omega arith)
    begun (t ∷ ts) ls none before e = let room = before f e in omega arith

    one : (a : Option MemAccess) (ts : List Trigger) (ls : List Reach) → f.place + 1 + length ls ≤ n
        → f.place + 1 + length (one_more_load a ts ls) ≤ suc n
    one None ts ls room = omega arith
    one (Some a) [] ls room = omega arith
    one (Some a) (t ∷ ts) ls room = omega (arith, length-append ls (reach_of a ∷ []))

    by_kind : ((f : Trigger) → slice_get (open_triggers code n) 0 ≡ Some f
        → f.place + 1 + length (open_loads code n) ≤ n)
        → (open_triggers code n ≡ [] → open_loads code n ≡ [])
        → (k : Option InsnKind) → kind_at code n ≡ k
        → slice_get (next_triggers k (trigger_at code n) (open_triggers code n)) 0 ≡ Some f
        → f.place + 1 + length (next_loads k (access_at code n) (open_triggers code n) (open_loads code n)) ≤ suc n
    by_kind before none (Some kinds.Barrier) k e = cc
    by_kind before none (Some kinds.Turn) k e = cc
    by_kind before none (Some kinds.Trigger) k e = begun (open_triggers code n) (open_loads code n) none before e
    by_kind before none (Some kinds.Load) k e =
        one (access_at code n) (open_triggers code n) (open_loads code n) (before f e)
    by_kind before none (Some kinds.Plain) k e = let room = before f e in omega arith
    by_kind before none (Some kinds.Store) k e = let room = before f e in omega arith
    by_kind before none (Some kinds.Locked) k e = let room = before f e in omega arith
    by_kind before none None k e = let room = before f e in omega arith
