-- The spelling of a number: decimal digits, or `0x` and hexadecimal digits of either case.
use Rattle.std.specs.Prelude.{ℕ, List, [], ◌∷◌, ◌==◌, ◌&&◌, ◌+◌, drop, if◌then◌else◌}
use Rattle.std.specs.List.{prefix_len}
use Rattle.std.specs.Char.{is_ascii_digit, is_ascii_hexdigit}
use Rattle.std.specs.Str.Parse.{digits_value}

-- how many hexadecimal digits there are behind `0x`
abbrev pub hex_len : ℕ → List ℕ → ℕ
hex_len b [] = 0
hex_len b (c ∷ s) = if b == 48 && c == 120 then prefix_len is_ascii_hexdigit s else 0

-- how many further bytes the number has that begins with the digit b before s: the longest
abbrev pub number_more : ℕ → List ℕ → ℕ
number_more b s = if hex_len b s == 0 then prefix_len is_ascii_digit s else 1 + hex_len b s

-- the number that a number's text stands for
abbrev pub number_value : List ℕ → ℕ
number_value [] = 0
number_value (b ∷ s) = if hex_len b s == 0 then digits_value 10 (b ∷ s) else digits_value 16 (drop 1 s)
