-- The conditions under which a trap that is reported late may find its sources lost or a wrong memory.
use Rattle.std.specs.Prelude.{◌≡◌, ◌≢◌, ◌<◌, ◌≤◌, ◌+◌, ℕ, ◌⊎◌, Some, List, length}
use Rattle.alpha_table.specs.declared.columns.InsnKind.TheVariants as kinds
use Rattle.alpha_table.specs.declared.columns.MemAccess.{MemAccess}
use Rattle.alpha_table.specs.Code.{Straight}
use Rattle.alpha_table.specs.Uses.{AccessesMeet}
use Rattle.alpha_shadow.specs.declared.broken.Condition.{Condition}
use Rattle.alpha_shadow.specs.declared.broken.Condition.TheVariants.{ZeroDestination, SourceLost, SameDestination}
use Rattle.alpha_shadow.specs.declared.broken.Condition.TheVariants.{WildBase, LoadThenStore, Locked, Turn, Open, Long}
use Rattle.alpha_shadow.specs.Code.{kind_at, destination_at, access_at, Sets, SetIn, ExposedIn}

-- a load at a place between, and a store here, which go by different bases, or by one base and may touch a common byte
abbrev pub Meets : List ℕ → ℕ → ℕ → MemAccess → MemAccess → Type 0
Meets code place at load store =
    (kind_at code place ≡ Some kinds.Load) × (access_at code place ≡ Some load)
    × (kind_at code at ≡ Some kinds.Store) × (access_at code at ≡ Some store)
    × ((load.base ≢ store.base) ⊎ AccessesMeet load store)

-- What each condition says of a trigger and a place of its shadow. C2: the word there sets a register that some word
-- from the trigger up to it uses before any word between sets it. C4: its access goes by a register that was set. C5:
-- it is a store that a load between may meet.
abbrev pub Holds : List ℕ → ℕ → ℕ → Condition → Type 0
Holds code trigger at ZeroDestination = (at ≡ trigger) × (destination_at code trigger ≡ Some 31)
Holds code trigger at SourceLost = (r : ℕ) × Sets code at r × ExposedIn code trigger (at + 1) r
Holds code trigger at SameDestination =
    (trigger < at) × (kind_at code at ≡ Some kinds.Trigger) × (destination_at code at ≡ destination_at code trigger)
Holds code trigger at WildBase =
    (trigger < at) × ((a : MemAccess) × (access_at code at ≡ Some a) × SetIn code trigger at a.base)
Holds code trigger at LoadThenStore =
    (place : ℕ) × (trigger < place) × (place < at)
    × ((load : MemAccess) × ((store : MemAccess) × Meets code place at load store))
Holds code trigger at Locked = kind_at code at ≡ Some kinds.Locked
Holds code trigger at Turn = kind_at code at ≡ Some kinds.Turn
Holds code trigger at Open = at ≡ length code
Holds code trigger at Long = (at ≡ trigger + 1025) × (at < length code) × (kind_at code at ≢ Some kinds.Barrier)

-- A place of a trigger's shadow is broken under a condition: from the trigger up to the place no barrier and no turn
-- stands, and the condition holds. (A barrier sets no register and makes no access: it breaks nothing by itself.)
pub record IsBroken (code : List ℕ) (trigger at : ℕ) (condition : Condition) : Type 0 where
  pub trigger_kind : kind_at code trigger ≡ Some kinds.Trigger
  pub order : trigger ≤ at
  pub straight : Straight code trigger at
  pub holds : Holds code trigger at condition

-- no place is broken
abbrev pub IsAccepted : List ℕ → Type 0
IsAccepted code = (trigger at : ℕ) (condition : Condition) → IsBroken code trigger at condition → ⊥
