-- The rules of an image's numbered fields.
use Rattle.std.specs.Prelude.{◌≡◌, ℕ, ◌+◌, ◌*◌, ◌-◌, ◌%◌, ◌^◌, ◌<◌, ◌≤◌, ◌⊎◌, List, ◌∷◌, length, map, sum_by, All}
use Rattle.std.specs.Prelude.{AllPairs}
use Rattle.std.specs.List.Sorted.{IsStrictlyIncreasing}
use Rattle.alpha_image.specs.declared.segment.Segment.{Segment}
use Rattle.alpha_image.specs.Numbers.{Numbers}

-- the data bytes of a segment and the zeroed bytes after them
abbrev pub size_of_segment : Segment → ℕ
size_of_segment s = s.filled + s.zeroed

-- the address is one of a segment's
abbrev pub Holds : Segment → ℕ → Type 0
Holds s address = (s.base ≤ address) × (address < s.base + size_of_segment s)

-- no address is in both
abbrev pub AreApart : Segment → Segment → Type 0
AreApart s t = (address : ℕ) → Holds s address → Holds t address → ⊥

-- the code as a segment of data bytes alone, and the stack, which ends at 2 ^ 30, as one of zeroed bytes alone
abbrev pub code_segment : Numbers → Segment
code_segment n = record { base = n.code_base; filled = 4 * n.words; zeroed = 0 }

abbrev pub stack_segment : Numbers → Segment
stack_segment n = record { base = 2 ^ 30 - n.stack; filled = 0; zeroed = n.stack }

abbrev pub regions : Numbers → List Segment
regions n = code_segment n ∷ stack_segment n ∷ n.segments

-- a multiple of 8,192 below 2 ^ 30
abbrev pub IsBase : ℕ → Type 0
IsBase base = (base % 8192 ≡ 0) × (base < 2 ^ 30)

-- No field is bad. In the order of the fields 1 to 10: each base is a multiple of 8,192 below 2 ^ 30, and the data
-- bases rise; there are 1 to 262,144 code words; data and zeroed bytes are 16 MiB at most, and all parts end at or
-- below 2 ^ 30; there are 16 bytes to 1 MiB of stack; the entry is a code word; no address is in two regions; the level
-- is 1 or 2; there are 8 segments at most.
pub record FieldsFit (n : Numbers) : Type 0 where
  pub code_base : IsBase n.code_base
  pub data_bases : All (λ s. IsBase s.base) n.segments × IsStrictlyIncreasing (map (λ s. s.base) n.segments)
  pub words : (0 < n.words) × (n.words ≤ 262144) × (n.code_base + 4 * n.words ≤ 2 ^ 30)
  pub filled : All (λ s. s.filled ≤ 16777216) n.segments
  pub zeroed : (sum_by size_of_segment n.segments ≤ 16777216)
      × All (λ s. s.base + size_of_segment s ≤ 2 ^ 30) n.segments
  pub stack : (16 ≤ n.stack) × (n.stack ≤ 1048576) × (n.stack % 16 ≡ 0)
  pub entry : (n.entry % 4 ≡ 0) × Holds (code_segment n) n.entry
  pub regions : AllPairs AreApart (regions n)
  pub level : (n.level ≡ 1) ⊎ (n.level ≡ 2)
  pub segments : length n.segments ≤ 8
