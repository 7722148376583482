-- An accepted code is safe.
use Rattle.std.proofs.Common.{◌≡◌, ◌≢◌, ◌<◌, ◌≤◌, ℕ, true, ◌⊎◌, Some, List, refl, ap, sym, ◌∙◌, arith, is_some}
use Rattle.alpha_table.specs.declared.columns.InsnKind.TheVariants as kinds
use Rattle.alpha_table.specs.declared.columns.MemAccess.{MemAccess}
use Rattle.alpha_table.specs.Code.{class_at, kind, trap_rc}
use Rattle.alpha_table.specs.Uses.{sets, uses, access}
use Rattle.alpha_values.specs.Address.{AccessesMeet}
use Rattle.alpha_shadow.specs.Code.{SetIn}
use Rattle.alpha_shadow.specs.declared.broken.Condition.{Condition}
use Rattle.alpha_shadow.specs.declared.broken.Condition.TheVariants as conditions
use Rattle.alpha_shadow.specs.Broken.{Holds, IsAccepted}
use Rattle.alpha_trap.proofs.ClassTests.{has_rc_trigger}
use Rattle.alpha_restart.specs.Safe.{Shadowed, IsSafe}

module _ (code : List ℕ) (accepted : IsAccepted code) where
  -- a condition holds nowhere in a shadow
  none : (p i : ℕ) (c : Condition) → Shadowed code p i → Holds code p i c → ⊥
  none p i c h holds = accepted p i c (record {
    trigger_kind = h.trigger_kind;
    order = h.order;
    straight = h.straight;
    holds = holds;
  })

  -- a trigger is in its own shadow
  own : (p : ℕ) → kind (class_at code p) ≡ Some kinds.Trigger → Shadowed code p p
  own p e = record { trigger_kind = e; order = omega arith; straight = λ k low high. absurd (omega arith) }

  zero : (p : ℕ) → trap_rc (class_at code p) ≢ Some 31
  zero p e = none p p conditions.ZeroDestination (own p (has_rc_trigger (class_at code p) (ap is_some e))) (refl, e)

  source : (p i j r : ℕ) → Shadowed code p i → p ≤ j → j ≤ i → sets (class_at code i) ≡ Some r
      → uses (class_at code j) r ≡ true → ((k : ℕ) → p ≤ k → k < j → sets (class_at code k) ≢ Some r) → ⊥
  source p i j r h low high set used unset = none p i conditions.SourceLost h (
    r,
    set,
    record {
      place = j;
      above = low;
      below = omega arith;
      uses = used;
      unset = λ (s : SetIn code p j r). unset s.place s.above s.below s.sets;
    },
  )

  same : (p i c : ℕ) → Shadowed code p i → p < i → trap_rc (class_at code p) ≡ Some c
      → trap_rc (class_at code i) ≢ Some c
  same p i c h above own_rc rc =
      none p i conditions.SameDestination h (above, has_rc_trigger (class_at code i) (ap is_some rc), rc ∙ sym own_rc)

  base : (p i k : ℕ) (a : MemAccess) → Shadowed code p i → p < i → access (class_at code i) ≡ Some a → p ≤ k → k < i
      → sets (class_at code k) ≢ Some a.base
  base p i k a h above e low high set =
      none p i conditions.WildBase h (above, (a, e, record { place = k; above = low; below = high; sets = set }))

  meets : (p i j : ℕ) (a b : MemAccess) → Shadowed code p i → kind (class_at code i) ≡ Some kinds.Store
      → access (class_at code i) ≡ Some a → p < j → j < i → kind (class_at code j) ≡ Some kinds.Load
      → access (class_at code j) ≡ Some b → ((b.base ≢ a.base) ⊎ AccessesMeet b a) → ⊥
  meets p i j a b h store e low high load f meet =
      none p i conditions.LoadThenStore h (j, low, high, (b, (a, (load, f, store, e, meet))))

  pub safe : IsSafe code
  safe = record {
    zero = zero;
    source = source;
    same = same;
    base = base;
    meets = meets;
    locked = λ p i h e. none p i conditions.Locked h e;
    turn = λ p i h e. none p i conditions.Turn h e;
  }
