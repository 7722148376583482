-- Numbers as lists of digits, the lowest digit first: bits in base 2, bytes in base 256. In memory, in
-- frames and in files numbers stand in this order.
use Rattle.std.specs.Prelude.{ℕ, zero, suc, ◌+◌, ◌*◌, ◌/◌, ◌%◌, List, [], ◌∷◌, drop, take}

-- the lowest digits of a number, as many as `count` says
unfoldable pub digits : ℕ → ℕ → ℕ → List ℕ
digits base zero n = []
digits base (suc count) n = n % base ∷ digits base count (n / base)

-- the number that digits write
unfoldable pub number : ℕ → List ℕ → ℕ
number base [] = 0
number base (d ∷ ds) = d + base * number base ds

-- the n lowest bytes of a number
abbrev pub low_bytes : ℕ → ℕ → List ℕ
low_bytes n v = digits 256 n v

-- the number that bytes write
abbrev pub little : List ℕ → ℕ
little bytes = number 256 bytes

-- the number in the n bytes at an offset
abbrev pub little_at : ℕ → ℕ → List ℕ → ℕ
little_at n offset bytes = little (take n (drop offset bytes))
