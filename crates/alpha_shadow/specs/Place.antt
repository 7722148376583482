-- How the least broken place at one place is found, condition by condition.
use Rattle.std.specs.Prelude.{◌≡◌, ◌<◌, ◌≤◌, ◌⊎◌, ℕ, Option, Some, None, List}
use Rattle.alpha_shadow.specs.declared.broken.Condition.{Condition}
use Rattle.alpha_shadow.specs.declared.broken.Broken.{Broken}
use Rattle.alpha_shadow.specs.Broken.{IsBroken}
use Rattle.alpha_shadow.specs.Least.{condition_number}

-- the first trigger for which a place is broken under a condition, or none
abbrev pub IsFirstBroken : List ℕ → ℕ → Condition → Option ℕ → Type 0
IsFirstBroken code at condition None = (trigger : ℕ) → IsBroken code trigger at condition → ⊥
IsFirstBroken code at condition (Some first) =
    IsBroken code first at condition × ((trigger : ℕ) → IsBroken code trigger at condition → first ≤ trigger)

-- the least broken place at a place, by its trigger and then by its condition
pub record IsLeastThere (code : List ℕ) (at n : ℕ) (b : Broken) : Type 0 where
  pub place : b.at ≡ at
  pub broken : IsBroken code b.trigger at b.condition
  pub number : condition_number b.condition ≤ n
  pub least : (trigger : ℕ) (condition : Condition) → condition_number condition ≤ n
      → IsBroken code trigger at condition
      → (b.trigger < trigger) ⊎ ((b.trigger ≡ trigger) × (condition_number b.condition ≤ condition_number condition))

-- the same under the first n conditions, or none
abbrev pub IsLeastUpTo : List ℕ → ℕ → ℕ → Option Broken → Type 0
IsLeastUpTo code at n None =
    (trigger : ℕ) (condition : Condition) → condition_number condition ≤ n → IsBroken code trigger at condition → ⊥
IsLeastUpTo code at n (Some b) = IsLeastThere code at n b
