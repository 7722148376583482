-- The levels of implementations.
use Rattle.std.specs.Prelude.{ℕ}
use Rattle.alpha_words.specs.declared.Level.{Level}
use Rattle.alpha_words.specs.declared.Level.TheVariants.{One, Two}

-- a level has the instructions of each level with a lower number
abbrev pub level_number : Level → ℕ
level_number One = 1
level_number Two = 2
