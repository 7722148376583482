-- What follows from the instruction table for the word at a place. The other lemmas speak of places alone.
use Rattle.std.proofs.Common.{◌≡◌, ◌<◌, ◌≤◌, ◌⊎◌, ℕ, Bool, true, false, Option, Some, None, List, length, ap, sym, refl}
use Rattle.std.proofs.Common.{subst, ⊎_elim, ◌==◌, cond, eqb-true}
use Rattle.std.specs.Option.{unwrap_or}
use Rattle.std.proofs.lemmas.Option.{slice_get_past}
use Rattle.std.proofs.lemmas.Bool.{cases_lt}
use Rattle.alpha_table.specs.declared.columns.InsnKind.{InsnKind}
use Rattle.alpha_table.specs.declared.columns.InsnKind.TheVariants as kinds
use Rattle.alpha_table.specs.Class.{Class, operate, trigger, address, load, store, load_locked, store_conditional}
use Rattle.alpha_table.specs.Class.{branch, jump, barrier, idle}
use Rattle.alpha_table.specs.Code.{class_kind, class_at, kind, trap_rc}
use Rattle.alpha_table.specs.Uses.{class_access, but_zero, sets}
use Rattle.alpha_shadow.specs.Code.{kind_at, destination_at, access_at, sets_at}
use Rattle.alpha_shadow.specs.Columns.{destination_of}

pub kind_at-class : (code : List ℕ) (at : ℕ) (c : Class) (k : InsnKind) → class_at code at ≡ Some c → k ≡ class_kind c
    → kind_at code at ≡ Some k
kind_at-class code at c k e f = rw e (ap Some (sym f))

pub class_at-past_end : (code : List ℕ) (at : ℕ) → length code ≤ at → class_at code at ≡ None
unfolding class_at
class_at-past_end code at past = rw (slice_get_past code at past) refl

-- a word stands at a place of the code alone
pub kind_within : (code : List ℕ) (at : ℕ) (k : InsnKind) → kind_at code at ≡ Some k → at < length code
kind_within code at k e =
    ⊎_elim
    (λ (p : at < length code). p)
    (λ (p : length code ≤ at). let n = class_at-past_end code at p in absurd cc)
    (cases_lt at (length code))

unless_zero : (d : ℕ) → unwrap_or (but_zero (Some d)) 31 ≡ d
unless_zero d = cases (d == 31) refl
  where
    cases : (b : Bool) → (d == 31) ≡ b → unwrap_or (cond b None (Some d)) 31 ≡ d
    cases true e = sym (eqb-true d 31 e)
    cases false e = refl

class_destination : (c : Class) → class_kind c ≡ kinds.Trigger → trap_rc (Some c) ≡ Some (unwrap_or (sets (Some c)) 31)
class_destination (trigger op ra src rc) e = ap Some (sym (unless_zero rc))
class_destination (operate op ra src rc) e = cc
class_destination c e = cc

-- what a trigger sets tells its destination
pub trigger_destination : (code : List ℕ) (at : ℕ) → kind_at code at ≡ Some kinds.Trigger
    → destination_at code at ≡ Some (destination_of code at)
trigger_destination code at e = cases (class_at code at) refl e
  where
    cases : (o : Option Class) → class_at code at ≡ o → kind o ≡ Some kinds.Trigger
        → destination_at code at ≡ Some (destination_of code at)
    cases None f e = cc
    cases (Some c) f e = rw f (class_destination c cc)

-- of these kinds no word makes an access
abbrev pub MakesNone : InsnKind → Type 0
MakesNone k = (k ≡ kinds.Trigger) ⊎ (k ≡ kinds.Plain) ⊎ (k ≡ kinds.Turn) ⊎ (k ≡ kinds.Barrier)

class_no_access : (c : Class) → MakesNone (class_kind c) → class_access c ≡ None
class_no_access (operate op ra src rc) e = refl
class_no_access (trigger op ra src rc) e = refl
class_no_access (address op ra rb disp) e = refl
class_no_access (load extension at ra) e = absurd (⊎_elim (λ q. cc) (⊎_elim (λ q. cc) (⊎_elim (λ q. cc) (λ q. cc))) e)
class_no_access (store at ra) e = absurd (⊎_elim (λ q. cc) (⊎_elim (λ q. cc) (⊎_elim (λ q. cc) (λ q. cc))) e)
class_no_access (load_locked extension at ra) e =
    absurd (⊎_elim (λ q. cc) (⊎_elim (λ q. cc) (⊎_elim (λ q. cc) (λ q. cc))) e)
class_no_access (store_conditional at ra) e =
    absurd (⊎_elim (λ q. cc) (⊎_elim (λ q. cc) (⊎_elim (λ q. cc) (λ q. cc))) e)
class_no_access (branch condition ra disp) e = refl
class_no_access (jump ra rb) e = refl
class_no_access (barrier call) e = refl
class_no_access idle e = refl

pub no_access : (code : List ℕ) (at : ℕ) (k : InsnKind) → kind_at code at ≡ Some k → MakesNone k
    → access_at code at ≡ None
no_access code at k e none = cases (class_at code at) refl e
  where
    cases : (o : Option Class) → class_at code at ≡ o → kind o ≡ Some k → access_at code at ≡ None
    cases None f e = rw f refl
    cases (Some c) f e = let same : k ≡ class_kind c = cc in rw f (class_no_access c (subst MakesNone same none))

class_no_set : (c : Class) → class_kind c ≡ kinds.Barrier → sets (Some c) ≡ None
class_no_set (barrier call) e = refl
class_no_set (operate op ra src rc) e = cc
class_no_set c e = cc

-- a barrier sets no register
pub no_set : (code : List ℕ) (at : ℕ) → kind_at code at ≡ Some kinds.Barrier → sets_at code at ≡ None
no_set code at e = cases (class_at code at) refl e
  where
    cases : (o : Option Class) → class_at code at ≡ o → kind o ≡ Some kinds.Barrier → sets_at code at ≡ None
    cases None f e = rw f refl
    cases (Some c) f e = rw f (class_no_set c cc)
