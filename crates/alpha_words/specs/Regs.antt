-- Sets and files of registers.
use Rattle.std.specs.Prelude.{◌≡◌, ◌<◌, ◌^◌, ℕ, List, ◌==◌, if◌then◌else◌, length, slice_index, slice_set}
use Rattle.std.specs.Int.{bit_at}

-- a set has a register where that register's bit of the set's number is 1
abbrev pub Has : ℕ → ℕ → Type 0
Has set r = bit_at set r ≡ 1

-- the value of a register
unfoldable pub reg : List ℕ → ℕ → ℕ
reg file r = slice_index file r

-- the file after a write, which R31 ignores
unfoldable pub put : List ℕ → ℕ → ℕ → List ℕ
put file r value = if r == 31 then file else slice_set file r value

-- the values of 32 registers, each of 64 bits, the last one 0
pub record IsFile (file : List ℕ) : Type 0 where
  pub size : length file ≡ 32
  pub zero : reg file 31 ≡ 0
  pub bounds : (r : ℕ) → reg file r < 2 ^ 64
