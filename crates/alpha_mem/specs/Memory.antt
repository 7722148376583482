-- A memory is a list of blocks: what stands at its addresses, and what a write leaves.
use Rattle.std.specs.Prelude.{◌≡◌, ℕ, ◌+◌, ◌-◌, ◌%◌, ◌^◌, ◌<◌, ◌≤◌, false, if◌then◌else◌, List, [], ◌∷◌, length}
use Rattle.std.specs.Prelude.{slice_index, All, count_by}
use Rattle.alpha_mem.specs.Intent.{Load}
use Rattle.alpha_mem.specs.Block.{Block, Shape, shape_of, shapes, holds, within, part, overwritten}

-- the n bytes at address a, which one block holds
unfoldable pub bytes_at : List Block → ℕ → ℕ → List ℕ
bytes_at [] a n = []
bytes_at (b ∷ m) a n = if holds (shape_of b) a n then part b a n else bytes_at m a n

-- the byte at an address, 0 where no block has it
unfoldable pub byte_at : List Block → ℕ → ℕ
byte_at [] a = 0
byte_at (b ∷ m) a =
    if holds (shape_of b) a 1 then slice_index b.bytes (a - b.first) else byte_at m a

-- the memory with the bytes xs at address a, all of them in the block that holds the range
unfoldable pub write_bytes : List Block → ℕ → List ℕ → List Block
write_bytes [] a xs = []
write_bytes (b ∷ m) a xs =
    if holds (shape_of b) a (length xs) then overwritten b a xs ∷ m else b ∷ write_bytes m a xs

-- no block has one of the n addresses from a on
abbrev pub IsFree : List Shape → ℕ → ℕ → Type 0
IsFree ss a n = (x : ℕ) → a ≤ x → x < a + n → within ss Load x 1 ≡ false

-- blocks begin at multiples of 16, end at or below 2 ^ 30, and share no address
pub record IsLayout (ss : List Shape) : Type 0 where
  pub aligned : All (λ s. s.first % 16 ≡ 0) ss
  pub below : All (λ s. s.first + s.size ≤ 2 ^ 30) ss
  pub apart : (a : ℕ) → count_by (λ s. holds s a 1) ss ≤ 1

-- the blocks of a memory lie as they must, and hold bytes
pub record IsMemory (m : List Block) : Type 0 where
  pub layout : IsLayout (shapes m)
  pub bytes : (a : ℕ) → byte_at m a < 256
