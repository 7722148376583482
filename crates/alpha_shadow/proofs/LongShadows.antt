-- C9: a shadow that is too long.
use Rattle.std.proofs.Common.{◌≡◌, ◌≢◌, ◌<◌, ◌≤◌, ◌+◌, ◌⊎◌, ℕ, Option, Some, None, List, length, refl, ⊎_elim, arith}
use Rattle.std.proofs.lemmas.Bool.{cases_lt}
use Rattle.alpha_table.specs.declared.columns.InsnKind.TheVariants as kinds
use Rattle.alpha_shadow.specs.declared.broken.Condition.TheVariants.{Long}
use Rattle.alpha_shadow.specs.Code.{kind_at}
use Rattle.alpha_shadow.specs.Window.{IsUnbroken, IsOpen, IsFirstThat}
use Rattle.alpha_shadow.specs.Place.{IsFirstBroken}
use Rattle.alpha_shadow.proofs.BreakingTriggers.{IsBroken-IsOpen, IsFirstBroken-IsFirstThat, IsFirstThat-first_has}
use Rattle.alpha_shadow.proofs.BreakingTriggers.{IsFirstThat-first_lacks}

-- where nothing before is broken, no shadow has reached further
pub IsOpen-bound : (code : List ℕ) (at p : ℕ) → IsUnbroken code at → at ≤ length code → IsOpen code p at → at ≤ p + 1025
IsOpen-bound code at p unbroken within o = ⊎_elim
    (λ (past : p + 1025 < at). absurd (unbroken p (p + 1025) Long past (record {
      trigger_kind = o.kind;
      order = omega arith;
      straight = λ n above below. o.straight n above (omega arith);
      holds = (refl, omega arith, (o.straight (p + 1025) (omega arith) past).0);
    })))
    (λ (q : at ≤ p + 1025). q)
    (cases_lt (p + 1025) at)

long_first : (code : List ℕ) (at : ℕ) → IsUnbroken code at → at < length code → kind_at code at ≢ Some kinds.Barrier
    → (o : Option ℕ) → IsFirstThat code at (λ p. p + 1025 ≤ at) o → IsFirstBroken code at Long o
long_first code at unbroken within not = IsFirstBroken-IsFirstThat code at Long (λ p. p + 1025 ≤ at)
    (λ p o q. let n = IsOpen-bound code at p unbroken (omega arith) o in (omega arith, within, not))
    (λ p b. let e = b.holds.0 in (IsBroken-IsOpen code p at Long b (λ n. omega arith), omega arith))

pub long_found : (code : List ℕ) (at first : ℕ) → IsUnbroken code at → at < length code
    → kind_at code at ≢ Some kinds.Barrier
    → IsFirstThat code at (λ p. Unit {0}) (Some first) → first + 1025 ≤ at → IsFirstBroken code at Long (Some first)
long_found code at first unbroken within not f q =
    long_first code at unbroken within not (Some first) (IsFirstThat-first_has code at (λ p. p + 1025 ≤ at) first f q)

pub long_missing : (code : List ℕ) (at first : ℕ) → IsUnbroken code at → at < length code
    → kind_at code at ≢ Some kinds.Barrier
    → IsFirstThat code at (λ p. Unit {0}) (Some first) → at < first + 1025 → IsFirstBroken code at Long None
long_missing code at first unbroken within not f q =
    long_first code at unbroken within not None
    (IsFirstThat-first_lacks code at (λ p. p + 1025 ≤ at) first f (λ p above h. omega arith) (λ h. omega arith))

pub none_long : (code : List ℕ) (at : ℕ)
    → (IsFirstThat code at (λ p. Unit {0}) None) ⊎ (kind_at code at ≡ Some kinds.Barrier)
    → IsFirstBroken code at Long None
none_long code at either = λ p b. let e = b.holds.0 in ⊎_elim
    (λ (f : IsFirstThat code at (λ p. Unit {0}) None). f p (IsBroken-IsOpen code p at Long b (λ n. omega arith)) tt)
    (λ k. b.holds.2 k)
    either
