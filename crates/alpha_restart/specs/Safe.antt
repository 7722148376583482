-- What acceptance gives to the machines, trigger by trigger.
use Rattle.std.specs.Prelude.{◌≡◌, ◌≢◌, ◌<◌, ◌≤◌, ℕ, Bool, true, false, ◌⊎◌, Option, Some, List}
use Rattle.std.specs.Option.{option_map_or}
use Rattle.alpha_table.specs.declared.columns.InsnKind.{InsnKind}
use Rattle.alpha_table.specs.declared.columns.InsnKind.TheVariants as kinds
use Rattle.alpha_table.specs.declared.columns.MemAccess.{MemAccess}
use Rattle.alpha_table.specs.Class.{Class}
use Rattle.alpha_table.specs.Code.{class_at, kind, trap_rc, Straight}
use Rattle.alpha_table.specs.Uses.{sets, uses, access}
use Rattle.alpha_values.specs.Address.{AccessesMeet}

-- the program may run from a trigger to a place with the trap pending
pub record Shadowed (code : List ℕ) (trigger at : ℕ) : Type 0 where
  pub trigger_kind : kind (class_at code trigger) ≡ Some kinds.Trigger
  pub order : trigger ≤ at
  pub straight : Straight code trigger at

-- In the shadow of a trigger no word loses a source, writes the trigger's destination again as a trigger, sets the base
-- of a later access, stores where a load before it read, locks or turns; and no trigger's destination is R31.
pub record IsSafe (code : List ℕ) : Type 0 where
  pub zero : (p : ℕ) → trap_rc (class_at code p) ≢ Some 31
  pub source : (p i j r : ℕ) → Shadowed code p i → p ≤ j → j ≤ i → sets (class_at code i) ≡ Some r
      → uses (class_at code j) r ≡ true → ((k : ℕ) → p ≤ k → k < j → sets (class_at code k) ≢ Some r) → ⊥
  pub same : (p i c : ℕ) → Shadowed code p i → p < i → trap_rc (class_at code p) ≡ Some c
      → trap_rc (class_at code i) ≢ Some c
  pub base : (p i k : ℕ) (a : MemAccess) → Shadowed code p i → p < i → access (class_at code i) ≡ Some a → p ≤ k → k < i
      → sets (class_at code k) ≢ Some a.base
  pub meets : (p i j : ℕ) (a b : MemAccess) → Shadowed code p i → kind (class_at code i) ≡ Some kinds.Store
      → access (class_at code i) ≡ Some a → p < j → j < i → kind (class_at code j) ≡ Some kinds.Load
      → access (class_at code j) ≡ Some b → ((b.base ≢ a.base) ⊎ AccessesMeet b a) → ⊥
  pub locked : (p i : ℕ) → Shadowed code p i → kind (class_at code i) ≢ Some kinds.Locked
  pub turn : (p i : ℕ) → Shadowed code p i → kind (class_at code i) ≢ Some kinds.Turn

-- a word that neither ends a shadow nor turns nor locks
abbrev pub steady_kind : InsnKind → Bool
steady_kind kinds.Plain = true
steady_kind kinds.Trigger = true
steady_kind kinds.Barrier = false
steady_kind kinds.Load = true
steady_kind kinds.Store = true
steady_kind kinds.Locked = false
steady_kind kinds.Turn = false

abbrev pub is_steady : Option Class → Bool
is_steady class = option_map_or steady_kind (kind class) false

-- there are only such words in [from, to)
abbrev pub Steady : List ℕ → ℕ → ℕ → Type 0
Steady code from to = (k : ℕ) → from ≤ k → k < to → is_steady (class_at code k) ≡ true
