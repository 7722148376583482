-- What a chooser tells, which may be nothing, and how it goes on.
use Rattle.std.specs.Prelude.{◌≡◌, ⊤, ℕ, ◌+◌, ◌%◌, ◌^◌, ◌<◌, List, length, slice_index, All, Option, Some, None}

-- the words still to come, from the next one on, and how many words were drawn, modulo 2 ^ 64
pub record Oracle : Type 0 where
  pub ahead : Option (ℕ → ℕ)
  pub count : Option ℕ

-- by what the chooser tells, `Chooser.ahead` and `Chooser.drawn`
abbrev pub oracle_of : {C : Type 0} → (C → Option (ℕ → ℕ)) → (C → Option ℕ) → C → Oracle
oracle_of ahead drawn chooser = record { ahead = ahead chooser; count = drawn chooser }

-- where the words were told, these came first, and the others are still to come
abbrev pub ConsumesWords : Option (ℕ → ℕ) → Option (ℕ → ℕ) → List ℕ → Type 0
ConsumesWords None new words = ⊤
ConsumesWords (Some ahead) None words = ⊥
ConsumesWords (Some ahead) (Some rest) words =
    ((k : ℕ) → k < length words → ahead k ≡ slice_index words k) × ((k : ℕ) → rest k ≡ ahead (length words + k))

-- where the number was told, it is so many more
abbrev pub CountsWords : Option ℕ → Option ℕ → ℕ → Type 0
CountsWords None new n = ⊤
CountsWords (Some before) None n = ⊥
CountsWords (Some before) (Some now) n = now % 2 ^ 64 ≡ (before + n) % 2 ^ 64

-- the chooser went on by these words of 64 bits
pub record OracleDraws (old new : Oracle) (words : List ℕ) : Type 0 where
  pub fit : All (λ word. word < 2 ^ 64) words
  pub went : ConsumesWords old.ahead new.ahead words
  pub counted : CountsWords old.count new.count (length words)
