-- The line of a run whose steps are used up.
use Rattle.std.specs.Prelude.{ℕ, List, [], ◌∷◌, ◌++◌, codes}

-- that of a run whose steps are all made
abbrev pub spent_line : List ℕ
spent_line = codes "steps" ++ 10 ∷ []
