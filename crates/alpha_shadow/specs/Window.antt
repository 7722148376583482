-- What is known of the words before a place, without walking back over them.
use Rattle.std.specs.Prelude.{◌≡◌, ◌<◌, ◌≤◌, ◌+◌, ◌↔◌, ◌⊎◌, ℕ, zero, suc, Option, Some, None, List, [], ◌∷◌, ◌++◌}
use Rattle.std.specs.Prelude.{length, slice_index, Bool, nat_le, nat_lt, ◌&&◌}
use Rattle.alpha_table.specs.declared.columns.InsnKind.{InsnKind}
use Rattle.alpha_table.specs.declared.columns.InsnKind.TheVariants as kinds
use Rattle.alpha_table.specs.declared.columns.MemAccess.{MemAccess}
use Rattle.alpha_shadow.specs.declared.broken.Condition.{Condition}
use Rattle.alpha_shadow.specs.declared.triggers.Trigger.{Trigger}
use Rattle.alpha_shadow.specs.declared.loads.Reach.{Reach}
use Rattle.alpha_shadow.specs.declared.window.Window.{Window}
use Rattle.alpha_shadow.specs.Code.{kind_at, access_at, Uses, SetIn}
use Rattle.alpha_shadow.specs.Columns.{destination_of}
use Rattle.alpha_shadow.specs.Reach.{reach_of, MayTouch}
use Rattle.alpha_table.specs.Code.{Straight}
use Rattle.alpha_shadow.specs.Broken.{IsBroken}

-- no place before this one is broken
abbrev pub IsUnbroken : List ℕ → ℕ → Type 0
IsUnbroken code at =
    (trigger place : ℕ) (condition : Condition) → place < at → IsBroken code trigger place condition → ⊥

-- a trigger before a place is open there: no barrier and no turn stands from it up to the place
pub record IsOpen (code : List ℕ) (trigger at : ℕ) : Type 0 where
  pub kind : kind_at code trigger ≡ Some kinds.Trigger
  pub before : trigger < at
  pub straight : Straight code trigger at

-- some word in [from, to) uses the register
pub record UsedIn (code : List ℕ) (from to r : ℕ) : Type 0 where
  pub place : ℕ
  pub above : from ≤ place
  pub below : place < to
  pub uses : Uses code place r

abbrev pub place_of : Trigger → ℕ
place_of t = t.place

-- whether a trigger stands in [from, to)
abbrev pub stands_within : ℕ → ℕ → Trigger → Bool
stands_within from to t = nat_le from t.place && nat_lt t.place to

-- the trigger at a place
abbrev pub trigger_at : List ℕ → ℕ → Trigger
trigger_at code place = record { place = place; destination = destination_of code place }

-- the open triggers after one more word
abbrev pub next_triggers : Option InsnKind → Trigger → List Trigger → List Trigger
next_triggers (Some kinds.Barrier) trigger open_before = []
next_triggers (Some kinds.Turn) trigger open_before = []
next_triggers (Some kinds.Trigger) trigger open_before = open_before ++ trigger ∷ []
next_triggers (Some kinds.Plain) trigger open_before = open_before
next_triggers (Some kinds.Load) trigger open_before = open_before
next_triggers (Some kinds.Store) trigger open_before = open_before
next_triggers (Some kinds.Locked) trigger open_before = open_before
next_triggers None trigger open_before = open_before

-- the triggers that are open at a place, in order
unfoldable pub open_triggers : List ℕ → ℕ → List Trigger
open_triggers code zero = []
open_triggers code (suc n) = next_triggers (kind_at code n) (trigger_at code n) (open_triggers code n)

-- the loads after one more load, where a trigger is open
abbrev pub one_more_load : Option MemAccess → List Trigger → List Reach → List Reach
one_more_load (Some access) (trigger ∷ others) loads = loads ++ reach_of access ∷ []
one_more_load (Some access) [] loads = loads
one_more_load None triggers loads = loads

-- the loads after one more word
abbrev pub next_loads : Option InsnKind → Option MemAccess → List Trigger → List Reach → List Reach
next_loads (Some kinds.Barrier) access triggers loads = []
next_loads (Some kinds.Turn) access triggers loads = []
next_loads (Some kinds.Load) access triggers loads = one_more_load access triggers loads
next_loads (Some kinds.Trigger) access triggers loads = loads
next_loads (Some kinds.Plain) access triggers loads = loads
next_loads (Some kinds.Store) access triggers loads = loads
next_loads (Some kinds.Locked) access triggers loads = loads
next_loads None access triggers loads = loads

-- the loads that stand after the first trigger that is open at a place, in order
unfoldable pub open_loads : List ℕ → ℕ → List Reach
open_loads code zero = []
open_loads code (suc n) = next_loads (kind_at code n) (access_at code n) (open_triggers code n) (open_loads code n)

-- a place was noted for just the registers that its word did something with
pub record Notes (Here : ℕ → Type 0) (place : ℕ) (before after : List ℕ) : Type 0 where
  pub size : length after ≡ 32
  pub either : (r : ℕ)
      → (Here r × (slice_index after r ≡ place + 1)) ⊎ ((Here r → ⊥) × (slice_index after r ≡ slice_index before r))

-- For each register, what was noted tells of each open trigger whether a word from it on did something with the
-- register. Of words outside the open shadows it need not tell.
pub record AreEnds (code : List ℕ) (at : ℕ) (In : ℕ → ℕ → ℕ → Type 0) (ends : List ℕ) : Type 0 where
  pub size : length ends ≡ 32
  pub within : (r : ℕ) → slice_index ends r ≤ at
  pub tells : (trigger r : ℕ) → IsOpen code trigger at → r < 32 → In trigger at r ↔ (trigger < slice_index ends r)

-- a window has what is known of the words before a place
pub record Summarizes (code : List ℕ) (w : Window) (at : ℕ) : Type 0 where
  pub triggers : w.triggers.items ≡ open_triggers code at
  pub loads : w.loads.items ≡ open_loads code at
  pub set : AreEnds code at (SetIn code) w.set.ends
  pub used : AreEnds code at (UsedIn code) w.used.ends

-- the first open trigger for which P holds, or none
abbrev pub IsFirstThat : List ℕ → ℕ → (ℕ → Type 0) → Option ℕ → Type 0
IsFirstThat code at P None = (trigger : ℕ) → IsOpen code trigger at → P trigger → ⊥
IsFirstThat code at P (Some first) =
    IsOpen code first at × P first × ((trigger : ℕ) → IsOpen code trigger at → P trigger → first ≤ trigger)

-- some load after an open trigger may touch a byte of a store
pub record LoadTouches (code : List ℕ) (at : ℕ) (store : Reach) : Type 0 where
  pub trigger : ℕ
  pub open_there : IsOpen code trigger at
  pub place : ℕ
  pub above : trigger < place
  pub below : place < at
  pub load : kind_at code place ≡ Some kinds.Load
  pub access : MemAccess
  pub accesses : access_at code place ≡ Some access
  pub touches : MayTouch (reach_of access) store

-- there is room for a word of this kind
abbrev pub HasRoom : Window → InsnKind → Type 0
HasRoom w kinds.Trigger = length w.triggers.items < 1025
HasRoom w kinds.Load = length w.loads.items < 1025
HasRoom w kinds.Plain = Unit {0}
HasRoom w kinds.Store = Unit {0}
HasRoom w kinds.Locked = Unit {0}
HasRoom w kinds.Barrier = Unit {0}
HasRoom w kinds.Turn = Unit {0}
