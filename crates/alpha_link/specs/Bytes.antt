-- Little-endian numbers of two bytes.
use Rattle.std.specs.Prelude.{ℕ, List, drop}
use Rattle.byteorder.specs.Endian.{little_bytes, little_number}

-- the two bytes of a number
unfoldable pub halfword : ℕ → List ℕ
halfword n = little_bytes 2 n

-- the number in the two bytes at an offset
unfoldable pub halfword_at : ℕ → List ℕ → ℕ
halfword_at offset bytes = little_number 2 (drop offset bytes)
