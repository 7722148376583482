-- A trigger where no shadow is open: it breaks nothing but its own.
use Rattle.std.proofs.Common.{◌≡◌, ◌≢◌, ◌<◌, ℕ, Option, Some, None, List, [], length, ⊎_elim, arith, refl, subst}
use Rattle.std.proofs.lemmas.Bool.{cases_eq}
use Rattle.alpha_table.specs.declared.columns.InsnKind.TheVariants as kinds
use Rattle.alpha_shadow.specs.declared.broken.Condition.{Condition}
use Rattle.alpha_shadow.specs.declared.broken.Condition.TheVariants.{SourceLost, SameDestination, WildBase}
use Rattle.alpha_shadow.specs.declared.broken.Condition.TheVariants.{LoadThenStore, Locked, Turn, Long}
use Rattle.alpha_shadow.specs.declared.broken.Broken.{Broken}
use Rattle.alpha_shadow.specs.Code.{kind_at, Sets, Uses}
use Rattle.alpha_shadow.specs.Broken.{IsBroken}
use Rattle.alpha_shadow.specs.Place.{IsFirstBroken, IsLeastUpTo}
use Rattle.alpha_shadow.specs.Window.{open_triggers}
use Rattle.alpha_shadow.proofs.Shadows.{open_triggers-nil}
use Rattle.alpha_shadow.proofs.BreakingTriggers.{IsBroken-IsOpen, locked_missing, turn_missing}
use Rattle.alpha_shadow.proofs.LeastBrokenSteps.{IsLeastUpTo-skip, IsLeastUpTo-open_skip}

-- what is broken there is broken for the trigger itself
own_place : (code : List ℕ) (at p : ℕ) (c : Condition) → open_triggers code at ≡ [] → IsBroken code p at c → p ≡ at
own_place code at p c none b = ⊎_elim
    (λ (e : p ≡ at). e)
    (λ (not : p ≢ at). absurd (open_triggers-nil code at none p (IsBroken-IsOpen code p at c b not)))
    (cases_eq p at)

pub SourceLost-lone_trigger : (code : List ℕ) (at r : ℕ) → open_triggers code at ≡ []
    → kind_at code at ≡ Some kinds.Trigger
    → Sets code at r → Uses code at r
    → IsFirstBroken code at SourceLost (Some at)
SourceLost-lone_trigger code at r none kind sets uses = (
  record {
    trigger_kind = kind;
    order = omega arith;
    straight = λ n above below. absurd (omega arith);
    holds = (
      r,
      sets,
      record {
        place = at;
        above = omega arith;
        below = omega arith;
        uses = uses;
        unset = λ s. let a = s.above in let b = s.below in omega arith;
      },
    );
  },
  λ p b. let e = own_place code at p SourceLost none b in omega arith,
)

pub SourceLost-lone_trigger_none : (code : List ℕ) (at r : ℕ) → open_triggers code at ≡ [] → Sets code at r
    → (Uses code at r → ⊥)
    → IsFirstBroken code at SourceLost None
SourceLost-lone_trigger_none code at r none sets kept = λ p b.
    let e = own_place code at p SourceLost none b in
    let h = b.holds in
    let again = h.1 in
    let same : h.0 ≡ r = cc in
    let x = h.2 in
    let here : x.place ≡ at = let a = x.above in let l = x.below in omega arith in
    kept (subst (Uses code at) same (subst (λ n. Uses code n h.0) here x.uses))

-- under no other condition it is broken
pub trigger-alone : (code : List ℕ) (at : ℕ) (found : Option Broken) → open_triggers code at ≡ []
    → kind_at code at ≡ Some kinds.Trigger → at < length code
    → IsLeastUpTo code at 2 found → IsLeastUpTo code at 9 found
trigger-alone code at found none kind within c2 =
    let own : (p : ℕ) (c : Condition) → IsBroken code p at c → p ≡ at = λ p c b. own_place code at p c none b in
    let c3 = IsLeastUpTo-skip code at 2 SameDestination found refl
    (λ p b. let e = own p SameDestination b in let l = b.holds.0 in omega arith) c2 in
    let c4 =
    IsLeastUpTo-skip code at 3 WildBase found refl
    (λ p b. let e = own p WildBase b in let l = b.holds.0 in omega arith) c3 in
    let c5 = IsLeastUpTo-skip code at 4 LoadThenStore found refl
    (λ p b. let e = own p LoadThenStore b in let h = b.holds in let l = h.1 in let m = h.2 in omega arith) c4 in
    let c6 = IsLeastUpTo-skip code at 5 Locked found refl (locked_missing code at (λ t. cc)) c5 in
    let c7 = IsLeastUpTo-skip code at 6 Turn found refl (turn_missing code at (λ t. cc)) c6 in
    let c8 = IsLeastUpTo-open_skip code at found within c7 in
    IsLeastUpTo-skip code at 8 Long found refl (λ p b. let e = own p Long b in let l = b.holds.0 in omega arith) c8
