-- The line of a broken place.
use Rattle.std.specs.Prelude.{ℕ, ◌+◌, ◌*◌, ◌%◌, ◌^◌, List, [], ◌∷◌, ◌++◌, codes, decimal}
use Rattle.alpha_io.specs.Line.{hex_digits}
use Rattle.alpha_shadow.specs.declared.broken.Broken.{Broken}
use Rattle.alpha_shadow.specs.Least.{condition_number}

-- the address of a place, modulo 2 ^ 64
abbrev pub place_address : ℕ → ℕ → ℕ
place_address code_base place = (code_base + 4 * place) % 2 ^ 64

-- `broken trigger A at B condition Cn` and a line feed
unfoldable pub broken_line : Broken → ℕ → List ℕ
broken_line b code_base =
    codes "broken trigger " ++ hex_digits (place_address code_base b.trigger) ++ codes " at "
    ++ hex_digits (place_address code_base b.at)
    ++ codes " condition C" ++ decimal (condition_number b.condition) ++ 10 ∷ []
