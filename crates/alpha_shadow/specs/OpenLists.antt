-- What a clause sees of the triggers and the loads that a window holds.
use Rattle.std.specs.Prelude.{◌≡◌, ◌≤ℤ◌, List, Option, Some, None, All}
use Rattle.alpha_shadow.specs.declared.triggers.Trigger.{Trigger}
use Rattle.alpha_shadow.specs.declared.loads.Reach.{Reach}

pub record OpenTriggers : Type 0 where
  pub items : List Trigger

pub record OpenLoads : Type 0 where
  pub items : List Reach

-- one reach has the other's base and each byte of it
abbrev pub IsAround : Reach → Reach → Type 0
IsAround around reach =
    (reach.base ≡ around.base) × (around.span.low ≤ℤ reach.span.low) × (reach.span.high ≤ℤ around.span.high)

-- the cover, if there is one, is around each of the loads
abbrev pub IsCover : Option Reach → List Reach → Type 0
IsCover (Some cover) loads = All (IsAround cover) loads
IsCover None loads = Unit {0}
