-- The limit of a choices file.
use Rattle.std.specs.Prelude.{ℕ}

-- the most bytes of a choices file
abbrev pub choices_limit : ℕ
choices_limit = 1048576
