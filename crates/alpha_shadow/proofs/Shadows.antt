-- The open triggers, word by word.
use Rattle.std.proofs.Common.{◌≡◌, ◌≢◌, ◌≤◌, ◌+◌, ◌⊎◌, ℕ, zero, suc, Bool, true, false, Option, Some, None, List, []}
use Rattle.std.proofs.Common.{◌∷◌, ◌++◌, length, find, slice_get, cond, sym, subst, refl, inl, inr, ⊎_elim, arith}
use Rattle.std.proofs.Common.{add-one, length-append}
use Rattle.std.specs.Option.{option_map, option_or}
use Rattle.std.proofs.lemmas.Bool.{cases_eq}
use Rattle.std.proofs.lemmas.List.Folds.{find-append}
use Rattle.alpha_table.specs.declared.columns.InsnKind.{InsnKind}
use Rattle.alpha_table.specs.declared.columns.InsnKind.TheVariants as kinds
use Rattle.alpha_shadow.specs.declared.triggers.Trigger.{Trigger}
use Rattle.alpha_shadow.specs.Code.{kind_at}
use Rattle.alpha_shadow.specs.Columns.{destination_of}
use Rattle.alpha_table.specs.Code.{Straight}
use Rattle.alpha_shadow.specs.Window.{IsOpen, IsFirstThat, trigger_at, next_triggers, open_triggers}

-- a word that ends no shadow
abbrev pub ShadowContinues : List ℕ → ℕ → Type 0
ShadowContinues code n = (kind_at code n ≢ Some kinds.Barrier) × (kind_at code n ≢ Some kinds.Turn)

pub IsOpen-ShadowContinues : (code : List ℕ) (n p : ℕ) → IsOpen code p (suc n) → ShadowContinues code n
IsOpen-ShadowContinues code n p h = let b = h.before in h.straight n (omega arith) (omega arith)

pub Straight-suc : (code : List ℕ) (from n : ℕ) → Straight code from n → ShadowContinues code n
    → Straight code from (suc n)
Straight-suc code from n s on = λ k above below. ⊎_elim
    (λ (e : k ≡ n). subst (ShadowContinues code) (sym e) on)
    (λ (e : k ≡ n → ⊥). s k above (omega arith))
    (cases_eq k n)

pub IsOpen-suc : (code : List ℕ) (n p : ℕ) → ShadowContinues code n → IsOpen code p n → IsOpen code p (suc n)
IsOpen-suc code n p on h =
    record { kind = h.kind; before = let b = h.before in omega arith; straight = Straight-suc code p n h.straight on }

pub IsOpen-new_trigger : (code : List ℕ) (n : ℕ) → kind_at code n ≡ Some kinds.Trigger → IsOpen code n (suc n)
IsOpen-new_trigger code n e = record {
  kind = e;
  before = omega arith;
  straight = Straight-suc code n n (λ k above below. absurd (omega arith)) (λ b. cc, λ t. cc);
}

pub IsOpen-suc_cases : (code : List ℕ) (n p : ℕ) → IsOpen code p (suc n)
    → IsOpen code p n ⊎ ((p ≡ n) × (kind_at code n ≡ Some kinds.Trigger))
IsOpen-suc_cases code n p h = ⊎_elim
    (λ (e : p ≡ n). inr (e, subst (λ k. kind_at code k ≡ Some kinds.Trigger) e h.kind))
    (λ (e : p ≡ n → ⊥). inl (record {
      kind = h.kind;
      before = let b = h.before in omega arith;
      straight = λ k above below. h.straight k above (omega arith);
    }))
    (cases_eq p n)

-- an open trigger that passes a test, with none before it that does
pub record IsFirstToPass (code : List ℕ) (at : ℕ) (test : Trigger → Bool) (t : Trigger) : Type 0 where
  pub same : t ≡ trigger_at code t.place
  pub there : IsOpen code t.place at
  pub passes : test t ≡ true
  pub least : (p : ℕ) → IsOpen code p at → test (trigger_at code p) ≡ true → t.place ≤ p

abbrev pub FindsTrigger : List ℕ → ℕ → (Trigger → Bool) → Option Trigger → Type 0
FindsTrigger code at test None = (p : ℕ) → IsOpen code p at → test (trigger_at code p) ≡ true → ⊥
FindsTrigger code at test (Some t) = IsFirstToPass code at test t

-- a word that is no trigger and ends no shadow
finds_still : (code : List ℕ) (n : ℕ) (test : Trigger → Bool) → ShadowContinues code n
    → kind_at code n ≢ Some kinds.Trigger
    → (o : Option Trigger) → FindsTrigger code n test o → FindsTrigger code (suc n) test o
finds_still code n test on not None f =
    λ p h passes. ⊎_elim (λ w. f p w passes) (λ w. not w.1) (IsOpen-suc_cases code n p h)
finds_still code n test on not (Some t) f = record {
  same = f.same;
  there = IsOpen-suc code n t.place on f.there;
  passes = f.passes;
  least = λ p h passes. ⊎_elim (λ w. f.least p w passes) (λ w. absurd (not w.1)) (IsOpen-suc_cases code n p h);
}

-- one more trigger
finds_more : (code : List ℕ) (n : ℕ) (test : Trigger → Bool) → kind_at code n ≡ Some kinds.Trigger
    → (o : Option Trigger) → FindsTrigger code n test o → (b : Bool) → test (trigger_at code n) ≡ b
    → FindsTrigger code (suc n) test (option_or o (cond b (Some (trigger_at code n)) None))
finds_more code n test e (Some t) f b eb = record {
  same = f.same;
  there = IsOpen-suc code n t.place (λ b. cc, λ t. cc) f.there;
  passes = f.passes;
  least = λ p h passes.
      ⊎_elim (λ w. f.least p w passes) (λ w. let b = f.there.before in omega (arith, w.0))
      (IsOpen-suc_cases code n p h);
}
finds_more code n test e None f true eb = record {
  same = refl;
  there = IsOpen-new_trigger code n e;
  passes = eb;
  least = λ p h passes. ⊎_elim (λ w. absurd (f p w passes)) (λ w. omega (arith, w.0)) (IsOpen-suc_cases code n p h);
}
finds_more code n test e None f false eb = λ p h passes. ⊎_elim
    (λ w. f p w passes)
    (λ w. let q = subst (λ k. test (trigger_at code k) ≡ true) w.0 passes in cc)
    (IsOpen-suc_cases code n p h)

-- a search of the open triggers finds the first that passes
pub FindsTrigger-open_triggers : (code : List ℕ) (test : Trigger → Bool) (at : ℕ)
    → FindsTrigger code at test (find test (open_triggers code at))
unfolding open_triggers
FindsTrigger-open_triggers code test zero = λ p h passes. let b = h.before in omega arith
FindsTrigger-open_triggers code test (suc n) = by_kind (FindsTrigger-open_triggers code test n) (kind_at code n) refl
  where
    ended : (ShadowContinues code n → ⊥) → FindsTrigger code (suc n) test None
    ended not = λ p h passes. not (IsOpen-ShadowContinues code n p h)

    by_kind : FindsTrigger code n test (find test (open_triggers code n)) → (k : Option InsnKind) → kind_at code n ≡ k
        → FindsTrigger code (suc n) test (find test (next_triggers k (trigger_at code n) (open_triggers code n)))
    by_kind before (Some kinds.Barrier) e = ended (λ on. on.0 e)
    by_kind before (Some kinds.Turn) e = ended (λ on. on.1 e)
    by_kind before (Some kinds.Trigger) e =
        rw find-append
        (finds_more code n test e (find test (open_triggers code n)) before (test (trigger_at code n)) refl)
    by_kind before (Some kinds.Plain) e = finds_still code n test (λ b. cc, λ t. cc) (λ t. cc) _ before
    by_kind before x e = finds_still code n test (λ b. cc, λ t. cc) (λ t. cc) _ before

-- what a search says, where the test decides a fact of the trigger's place
pub FindsTrigger-IsFirstThat : (code : List ℕ) (at : ℕ) (test : Trigger → Bool) (P : ℕ → Type 0)
    → ((p : ℕ) → test (trigger_at code p) ≡ true → P p) → ((p : ℕ) → P p → test (trigger_at code p) ≡ true)
    → (o : Option Trigger) → FindsTrigger code at test o → IsFirstThat code at P (option_map (λ t. t.place) o)
FindsTrigger-IsFirstThat code at test P to from None f = λ p h holds. f p h (from p holds)
FindsTrigger-IsFirstThat code at test P to from (Some t) f =
    (f.there, to t.place (subst (λ t. test t ≡ true) f.same f.passes), λ p h holds. f.least p h (from p holds))

pub find-always_true : (ts : List Trigger) → find (λ t. true) ts ≡ slice_get ts 0
find-always_true [] = refl
find-always_true (t ∷ ts) = refl

-- the first of the list is the first of all
pub IsFirstThat-open_triggers : (code : List ℕ) (at : ℕ)
    → IsFirstThat code at (λ p. Unit {0}) (option_map (λ t. t.place) (slice_get (open_triggers code at) 0))
IsFirstThat-open_triggers code at =
    FindsTrigger-IsFirstThat code at (λ t. true) (λ p. Unit {0}) (λ p e. tt) (λ p u. refl)
    (slice_get (open_triggers code at) 0)
    (subst (FindsTrigger code at (λ t. true)) (find-always_true (open_triggers code at))
    (FindsTrigger-open_triggers code (λ t. true) at))

-- the list after one more word
pub open_triggers_next : (code : List ℕ) (at : ℕ) (kind : InsnKind) (destination : ℕ) → kind_at code at ≡ Some kind
    → destination_of code at ≡ destination
    → open_triggers code (at + 1)
    ≡ next_triggers (Some kind) (record { place = at; destination = destination }) (open_triggers code at)
unfolding open_triggers
open_triggers_next code at kind destination e f = rw (add-one, e, f) refl

-- the places of the open triggers are different: a list that begins at a place is no longer than the words from there
pub open_triggers-length_bound : (code : List ℕ) (at : ℕ) (f : Trigger) → slice_get (open_triggers code at) 0 ≡ Some f
    → f.place + length (open_triggers code at) ≤ at
unfolding open_triggers
open_triggers-length_bound code zero f e = cc
open_triggers-length_bound code (suc n) f e = by_kind (open_triggers-length_bound code n) (kind_at code n) refl e
  where
    more : (ts : List Trigger) → ((f : Trigger) → slice_get ts 0 ≡ Some f → f.place + length ts ≤ n)
        → slice_get (ts ++ trigger_at code n ∷ []) 0 ≡ Some f → f.place + length (ts ++ trigger_at code n ∷ []) ≤ suc n
    more [] before e = let same : f ≡ trigger_at code n = cc in rw same (omega arith)
    more (t ∷ ts) before e = let room = before f e in omega (arith, length-append (t ∷ ts) (trigger_at code n ∷ []))

    by_kind : ((f : Trigger) → slice_get (open_triggers code n) 0 ≡ Some f
        → f.place + length (open_triggers code n) ≤ n)
        → (k : Option InsnKind) → kind_at code n ≡ k
        → slice_get (next_triggers k (trigger_at code n) (open_triggers code n)) 0 ≡ Some f
        → f.place + length (next_triggers k (trigger_at code n) (open_triggers code n)) ≤ suc n
    by_kind before (Some kinds.Barrier) k e = cc
    by_kind before (Some kinds.Turn) k e = cc
    by_kind before (Some kinds.Trigger) k e = more (open_triggers code n) before e
    by_kind before (Some kinds.Plain) k e = let room = before f e in omega arith
    by_kind before (Some kinds.Load) k e = let room = before f e in omega arith
    by_kind before (Some kinds.Store) k e = let room = before f e in omega arith
    by_kind before (Some kinds.Locked) k e = let room = before f e in omega arith
    by_kind before None k e = let room = before f e in omega arith

-- the first of the list is open
pub open_triggers-IsOpen : (code : List ℕ) (at : ℕ) (t : Trigger) (ts : List Trigger) → open_triggers code at ≡ t ∷ ts
    → IsOpen code t.place at
open_triggers-IsOpen code at t ts e =
    (subst (λ ts. IsFirstThat code at (λ p. Unit {0}) (option_map (λ t. t.place) (slice_get ts 0))) e
    (IsFirstThat-open_triggers code at)).0

-- an empty list leaves no open trigger
pub open_triggers-nil : (code : List ℕ) (at : ℕ) → open_triggers code at ≡ [] → (p : ℕ) → IsOpen code p at → ⊥
open_triggers-nil code at e p h =
    subst (λ ts. IsFirstThat code at (λ p. Unit {0}) (option_map (λ t. t.place) (slice_get ts 0))) e
    (IsFirstThat-open_triggers code at) p h tt
