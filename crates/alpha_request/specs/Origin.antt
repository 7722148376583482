-- The choices of the imprecise machine.
use Rattle.std.specs.Prelude.{ℕ, List}

-- where they come from, with the bytes of the file's name
pub data Origin : Type 0 where
  seed : ℕ → Origin
  file : List ℕ → Origin
