-- Blocks of memory, and where they lie.
use Rattle.std.specs.Prelude.{ℕ, ◌+◌, ◌-◌, ◌==◌, Bool, true, ◌&&◌, ◌||◌, List, ◌++◌, length, map, take, drop, replicate}
use Rattle.std.specs.Prelude.{nat_le}
use Rattle.std.specs.List.{list_any}
use Rattle.alpha_mem.specs.Intent.{Intent, Load, Store}

-- bytes that stand in a row from the address `first` on
pub record Block : Type 0 where
  pub first : ℕ
  pub bytes : List ℕ
  pub writable : Bool

-- where a block lies, and whether stores may write it
pub record Shape : Type 0 where
  pub first : ℕ
  pub size : ℕ
  pub writable : Bool

abbrev pub shape_of : Block → Shape
shape_of b = record { first = b.first; size = length b.bytes; writable = b.writable }

abbrev pub shapes : List Block → List Shape
shapes m = map shape_of m

-- all n bytes at address a lie in the block
abbrev pub holds : Shape → ℕ → ℕ → Bool
holds s a n = nat_le s.first a && nat_le (a + n) (s.first + s.size)

-- a load may read each block, and a store write the writable ones
abbrev pub allows : Shape → Intent → Bool
allows s Load = true
allows s Store = s.writable

-- n is 0, or one block that the access may go to has all n bytes at address a
abbrev pub within : List Shape → Intent → ℕ → ℕ → Bool
within ss intent a n = n == 0 || list_any (λ s. allows s intent && holds s a n) ss

-- the block's bytes at address a
abbrev pub part : Block → ℕ → ℕ → List ℕ
part b a n = take n (drop (a - b.first) b.bytes)

-- the block with the bytes xs at address a
abbrev pub overwritten : Block → ℕ → List ℕ → Block
overwritten b a xs =
    record b { bytes = take (a - b.first) b.bytes ++ (xs ++ drop (a - b.first + length xs) b.bytes) }

-- a new block: bytes, and then zeros
abbrev pub block : ℕ → List ℕ → ℕ → Bool → Block
block first bytes zeroed writable =
    record { first = first; bytes = bytes ++ replicate zeroed 0; writable = writable }
