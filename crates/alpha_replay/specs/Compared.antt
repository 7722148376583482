-- Outputs that are compared while they grow.
use Rattle.std.specs.Prelude.{◌≡◌, ℕ, ◌+◌, ◌==◌, if◌then◌else◌, List, [], ◌∷◌, ◌++◌, drop, Option, Some, None}
use Rattle.alpha_replay.specs.declared.compare.Compared.{Compared}

-- The first place at which two lists differ, or one of them ends, the first element counted by this number. There is
-- none where the lists are equal.
abbrev pub first_difference : ℕ → List ℕ → List ℕ → Option ℕ
first_difference n [] [] = None
first_difference n [] (y ∷ ys) = Some n
first_difference n (x ∷ xs) [] = Some n
first_difference n (x ∷ xs) (y ∷ ys) = if x == y then first_difference (n + 1) xs ys else Some n

-- where an output that goes on with these bytes differs from what is expected
abbrev pub differs_on : Compared → List ℕ → List ℕ → Option ℕ
differs_on seen more expected =
    if seen.differs then Some seen.at else first_difference seen.at more (drop seen.at expected)

-- that was seen of an output, whatever it goes on with
abbrev pub Sees : List ℕ → Compared → List ℕ → Type 0
Sees expected seen output = (more : List ℕ)
    → first_difference 0 (output ++ more) expected ≡ differs_on seen more expected
