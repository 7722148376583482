-- The least broken place.
use Rattle.std.specs.Prelude.{◌≡◌, ◌<◌, ◌≤◌, ℕ, ◌⊎◌, List}
use Rattle.alpha_shadow.specs.declared.broken.Condition.{Condition}
use Rattle.alpha_shadow.specs.declared.broken.Condition.TheVariants.{ZeroDestination, SourceLost, SameDestination}
use Rattle.alpha_shadow.specs.declared.broken.Condition.TheVariants.{WildBase, LoadThenStore, Locked, Turn, Open, Long}
use Rattle.alpha_shadow.specs.declared.broken.Broken.{Broken}
use Rattle.alpha_shadow.specs.Broken.{IsBroken}

-- the conditions in their order
abbrev pub condition_number : Condition → ℕ
condition_number ZeroDestination = 1
condition_number SourceLost = 2
condition_number SameDestination = 3
condition_number WildBase = 4
condition_number LoadThenStore = 5
condition_number Locked = 6
condition_number Turn = 7
condition_number Open = 8
condition_number Long = 9

-- a broken place comes no later than another: by its place, then by its trigger, then by its condition
abbrev pub NoLater : Broken → ℕ → ℕ → Condition → Type 0
NoLater b trigger at condition =
    (b.at < at)
    ⊎ ((b.at ≡ at)
    × ((b.trigger < trigger) ⊎ ((b.trigger ≡ trigger) × (condition_number b.condition ≤ condition_number condition))))

-- the least broken place
pub record IsLeastBroken (code : List ℕ) (b : Broken) : Type 0 where
  pub broken : IsBroken code b.trigger b.at b.condition
  pub least : (trigger at : ℕ) (condition : Condition) → IsBroken code trigger at condition
      → NoLater b trigger at condition
