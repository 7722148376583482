-- The walk over the code and its end.
use Rattle.std.proofs.Common.{◌≡◌, ◌≢◌, ◌<◌, ◌≤◌, ◌+◌, ℕ, Some, None, List, [], ◌∷◌, length, slice_get, inl, inr}
use Rattle.std.proofs.Common.{⊎_elim, arith, subst, sym, refl, ap, ◌∙◌, lit<}
use Rattle.std.proofs.lemmas.Bool.{cases_eq, cases_lt}
use Rattle.alpha_table.specs.declared.columns.InsnKind.{InsnKind}
use Rattle.alpha_table.specs.declared.columns.InsnKind.TheVariants as kinds
use Rattle.alpha_shadow.specs.declared.broken.Condition.{Condition}
use Rattle.alpha_shadow.specs.declared.broken.Condition.TheVariants.{ZeroDestination, SourceLost, SameDestination}
use Rattle.alpha_shadow.specs.declared.broken.Condition.TheVariants.{WildBase, LoadThenStore, Locked, Turn, Open, Long}
use Rattle.alpha_shadow.specs.declared.broken.Broken.{Broken}
use Rattle.alpha_shadow.specs.declared.triggers.Trigger.{Trigger}
use Rattle.alpha_shadow.specs.declared.window.Window.{Window}
use Rattle.alpha_shadow.specs.Code.{kind_at}
use Rattle.alpha_shadow.specs.Broken.{IsBroken, IsAccepted}
use Rattle.alpha_shadow.specs.Least.{IsLeastBroken, condition_number}
use Rattle.alpha_shadow.specs.Window.{Summarizes, IsUnbroken, IsOpen, IsFirstThat, HasRoom, open_triggers, open_loads}
use Rattle.alpha_shadow.specs.Place.{IsLeastUpTo}
use Rattle.alpha_shadow.proofs.WordColumns.{kind_within, class_at-past_end}
use Rattle.alpha_shadow.proofs.Shadows.{open_triggers-nil, open_triggers-length_bound, open_triggers-IsOpen}
use Rattle.alpha_shadow.proofs.OpenLoads.{no_loads, loads_room}
use Rattle.alpha_shadow.proofs.BreakingTriggers.{IsBroken-IsOpen, IsOpen-IsBroken}
use Rattle.alpha_shadow.proofs.LongShadows.{IsOpen-bound}
use Rattle.alpha_shadow.proofs.LeastBrokenSteps.{number_bound}

-- what was broken at no place before, nor at this one, is broken at no place before the next
unbroken_more : (code : List ℕ) (at : ℕ) → IsUnbroken code at → ((p : ℕ) (c : Condition) → IsBroken code p at c → ⊥)
    → IsUnbroken code (at + 1)
unbroken_more code at before here = λ p place c below b. ⊎_elim
    (λ (e : place ≡ at). here p c (subst (λ n. IsBroken code p n c) e b))
    (λ not. before p place c (omega arith) b)
    (cases_eq place at)

pub IsUnbroken-next : (code : List ℕ) (at : ℕ) → IsUnbroken code at → IsLeastUpTo code at 9 None
    → IsUnbroken code (at + 1)
IsUnbroken-next code at before none = unbroken_more code at before (λ p c b. none p c (number_bound c) b)

pub IsUnbroken-skip : (code : List ℕ) (at : ℕ) (w : Window) (kind : InsnKind) → Summarizes code w at
    → kind_at code at ≡ Some kind → w.triggers.items ≡ [] → kind ≢ kinds.Trigger
    → IsUnbroken code at → IsUnbroken code (at + 1)
IsUnbroken-skip code at w kind s k t other before = unbroken_more code at before (λ p c b. ⊎_elim
    (λ (e : p ≡ at). let q = subst (λ n. kind_at code n ≡ Some kinds.Trigger) e b.trigger_kind in other cc)
    (λ not. open_triggers-nil code at (sym s.triggers ∙ t) p (IsBroken-IsOpen code p at c b not))
    (cases_eq p at))

-- the least broken place at the first place that is broken at all
pub IsUnbroken-IsLeastBroken : (code : List ℕ) (at : ℕ) (b : Broken) → IsUnbroken code at
    → IsLeastUpTo code at 9 (Some b)
    → IsLeastBroken code b
IsUnbroken-IsLeastBroken code at b before f = record {
  broken = subst (λ n. IsBroken code b.trigger n b.condition) (sym f.place) f.broken;
  least = λ p place c q. ⊎_elim
      (λ (e : place ≡ at). inr (f.place ∙ sym e, f.least p c (number_bound c) (subst (λ n. IsBroken code p n c) e q)))
      (λ not. inl (⊎_elim (λ (l : place < at). absurd (before p place c l q))
      (λ (l : at ≤ place). let e = f.place in omega arith) (cases_lt place at)))
      (cases_eq place at);
}

-- at the end of the code

trigger_within : (code : List ℕ) (p at : ℕ) (c : Condition) → IsBroken code p at c → p < length code
trigger_within code p at c b = kind_within code p kinds.Trigger b.trigger_kind

-- a shadow that breaks at no place of the code is open at its end
reaches_end : (code : List ℕ) (p place : ℕ) (c : Condition) → IsUnbroken code (length code) → IsBroken code p place c
    → IsOpen code p (length code) × (length code ≤ place)
reaches_end code p place c before b =
    let beyond : length code ≤ place = ⊎_elim (λ (l : place < length code). absurd (before p place c l b))
    (λ (l : length code ≤ place). l) (cases_lt place (length code)) in (
      record {
        kind = b.trigger_kind;
        before = trigger_within code p place c b;
        straight = λ k above below. b.straight k above (omega arith);
      },
      beyond,
    )

pub IsUnbroken-end_accepted : (code : List ℕ) (w : Window) → Summarizes code w (length code)
    → IsUnbroken code (length code)
    → IsFirstThat code (length code) (λ p. Unit {0}) None → IsAccepted code
IsUnbroken-end_accepted code w s before f = λ p place c b. f p (reaches_end code p place c before b).0 tt

-- what holds one past the last word holds from C8 on
open_first : (code : List ℕ) (p : ℕ) (c : Condition) → IsBroken code p (length code) c → 8 ≤ condition_number c
open_first code p ZeroDestination b =
    let w = trigger_within code p (length code) ZeroDestination b in
    absurd (omega (arith, b.holds.0))
open_first code p SourceLost b = let n = class_at-past_end code (length code) (omega arith) in let s = b.holds.1 in cc
open_first code p SameDestination b =
    let n = class_at-past_end code (length code) (omega arith) in
    let s = b.holds.1 in
    cc
open_first code p WildBase b = let n = class_at-past_end code (length code) (omega arith) in let s = b.holds.1.1 in cc
open_first code p LoadThenStore b =
    let n = class_at-past_end code (length code) (omega arith) in
    let s = b.holds.3.1.1.2 in
    cc
open_first code p Locked b = let n = class_at-past_end code (length code) (omega arith) in let s = b.holds in cc
open_first code p Turn b = let n = class_at-past_end code (length code) (omega arith) in let s = b.holds in cc
open_first code p Open b = omega arith
open_first code p Long b = omega arith

pub IsUnbroken-end_open : (code : List ℕ) (w : Window) (first : ℕ) → Summarizes code w (length code)
    → IsUnbroken code (length code)
    → IsFirstThat code (length code) (λ p. Unit {0}) (Some first)
    → IsLeastBroken code (record { trigger = first; at = length code; condition = Open })
IsUnbroken-end_open code w first s before f = record {
  broken = IsOpen-IsBroken code first (length code) Open f.0 refl;
  least = λ p place c b.
      let r = reaches_end code p place c before b in
      ⊎_elim
      (λ (beyond : length code < place). inl beyond)
      (λ (l : place ≤ length code).
      let beyond = r.1 in
      let e : length code ≡ place = omega arith in
      inr (
        e,
        ⊎_elim
            (λ (q : first < p). inl q)
            (λ (q : p ≤ first). inr
            (let above = f.2 p r.0 tt in omega arith, open_first code p c (subst (λ n. IsBroken code p n c) (sym e) b)))
            (cases_lt first p),
      ))
      (cases_lt (length code) place);
}

-- a word that breaks nothing, and is no barrier, finds room: all open triggers and all loads stand in the last 1,024
-- places
IsUnbroken-HasRoom_near : (code : List ℕ) (at first : ℕ) (kind : InsnKind) → IsUnbroken code at
    → IsLeastUpTo code at 9 None
    → at < length code → kind_at code at ≡ Some kind → kind ≢ kinds.Barrier
    → IsOpen code first at → at < first + 1025
IsUnbroken-HasRoom_near code at first kind before none within k other o = ⊎_elim
    (λ (l : at < first + 1025). l)
    (λ (l : first + 1025 ≤ at).
    let e : at ≡ first + 1025 = let n = IsOpen-bound code at first before (omega arith) o in omega arith in
    absurd (none first Long (number_bound Long) (IsOpen-IsBroken code first at Long o (e, within, λ b. other cc))))
    (cases_lt at (first + 1025))

open_triggers-bound : (code : List ℕ) (at : ℕ) (kind : InsnKind) → IsUnbroken code at → IsLeastUpTo code at 9 None
    → at < length code
    → kind_at code at ≡ Some kind → kind ≢ kinds.Barrier
    → (ts : List Trigger) → open_triggers code at ≡ ts
    → (length (open_triggers code at) < 1025) × (length (open_loads code at) < 1025)
open_triggers-bound code at kind before none within k other [] e =
    (rw e (lit< tt), rw (no_loads code at e) (lit< tt))
open_triggers-bound code at kind before none within k other (t ∷ ts) e =
    let first : slice_get (open_triggers code at) 0 ≡ Some t = ap (λ l. slice_get l 0) e in
    let close =
    IsUnbroken-HasRoom_near code at t.place kind before none within k other (open_triggers-IsOpen code at t ts e) in
    let triggers = open_triggers-length_bound code at t first in
    let loads = loads_room code at t first in
    (omega arith, omega arith)

pub IsUnbroken-HasRoom : (code : List ℕ) (at : ℕ) (w : Window) (kind : InsnKind) → Summarizes code w at
    → IsUnbroken code at
    → IsLeastUpTo code at 9 None → at < length code → kind_at code at ≡ Some kind
    → HasRoom w kind
IsUnbroken-HasRoom code at w kinds.Trigger s before none within k =
    subst (λ ts. length ts < 1025) (sym s.triggers)
    (open_triggers-bound code at kinds.Trigger before none within k (λ e. cc) (open_triggers code at) refl).0
IsUnbroken-HasRoom code at w kinds.Load s before none within k =
    subst (λ ls. length ls < 1025) (sym s.loads)
    (open_triggers-bound code at kinds.Load before none within k (λ e. cc) (open_triggers code at) refl).1
IsUnbroken-HasRoom code at w kinds.Plain s before none within k = tt
IsUnbroken-HasRoom code at w kind s before none within k = tt
