-- Whole numbers, and the registers of 64 bits that hold them. A size is `w32` for a longword and `w64` for a quadword.
use Rattle.std.specs.Prelude.{ℕ, ℤ, ◌^◌, pos, unsigned_abs}
use Rattle.std.specs.Int.{Width, int_wrap, int_rem_euclid}

-- the signed number in the low bits of a register, as many as the size has
abbrev pub signed : Width → ℕ → ℤ
signed size n = int_wrap size (pos n)

-- the register that holds a number: the number modulo 2 ^ 64
unfoldable pub register_of : ℤ → ℕ
register_of z = unsigned_abs (int_rem_euclid z (pos (2 ^ 64)))

-- the register after a result that the size wraps: the number of the size's signed range that is congruent to it
abbrev pub wrapped : Width → ℤ → ℕ
wrapped size z = register_of (int_wrap size z)
