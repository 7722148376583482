-- Numbers in a line of text.
use Rattle.std.specs.Prelude.{ℕ, List}
use Rattle.std.specs.Int.{to_be_bytes, w64}
use Rattle.hex.specs.Hex.{encode_lower}

-- the 16 lower-case hexadecimal digits of a number of 64 bits
unfoldable pub hex_digits : ℕ → List ℕ
hex_digits n = encode_lower (to_be_bytes w64 n)
