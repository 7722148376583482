-- A register as the list of its bits or its bytes, the lowest first.
use Rattle.std.specs.Prelude.{ℕ, ◌==◌, if◌then◌else◌, suc, List, [], ◌∷◌}
use Rattle.alpha_words.specs.Digits.{digits}

-- the bits and the bytes of a register
abbrev pub bits_of : ℕ → List ℕ
bits_of register = digits 2 64 register

abbrev pub bytes_of : ℕ → List ℕ
bytes_of register = digits 256 8 register

-- place by place
unfoldable pub pairwise : (ℕ → ℕ → ℕ) → List ℕ → List ℕ → List ℕ
pairwise f [] ys = []
pairwise f (x ∷ xs) [] = []
pairwise f (x ∷ xs) (y ∷ ys) = f x y ∷ pairwise f xs ys

-- how many zeros stand before the first bit that is 1, which are all bits where none is
unfoldable pub zeros_before_one : List ℕ → ℕ
zeros_before_one [] = 0
zeros_before_one (bit ∷ bits) = if bit == 0 then suc (zeros_before_one bits) else 0
