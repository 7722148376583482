-- How an image's bytes are laid out. All numbers are little-endian.
use Rattle.std.specs.Prelude.{ℕ, ◌++◌, List, [], ◌∷◌, length, sum_by}
use Rattle.std.specs.List.{concat, flat_map}
use Rattle.byteorder.specs.Endian.{little_bytes}
use Rattle.alpha_image.specs.declared.segment.Segment.{Segment}
use Rattle.alpha_image.specs.declared.version.Version.{Version}
use Rattle.alpha_image.specs.declared.version.Version.TheVariants.{One, Two}
use Rattle.alpha_image.specs.Numbers.{Numbers}

-- `ALPHAIM1` and `ALPHAIM2`
abbrev pub magic : Version → List ℕ
magic One = 65 ∷ 76 ∷ 80 ∷ 72 ∷ 65 ∷ 73 ∷ 77 ∷ 49 ∷ []
magic Two = 65 ∷ 76 ∷ 80 ∷ 72 ∷ 65 ∷ 73 ∷ 77 ∷ 50 ∷ []

-- the eight bytes of a number
unfoldable pub quadword : ℕ → List ℕ
quadword n = little_bytes 8 n

-- the four bytes of a number
unfoldable pub longword : ℕ → List ℕ
longword n = little_bytes 4 n

-- the 16 bytes of a segment's numbers
abbrev pub segment_numbers : Segment → List ℕ
segment_numbers s = quadword s.base ++ (longword s.filled ++ longword s.zeroed)

-- the first segment, one of zeros where there is none
abbrev pub first_segment : List Segment → Segment
first_segment [] = record { base = 0; filled = 0; zeroed = 0 }
first_segment (s ∷ rest) = s

-- what stands before the code
unfoldable pub image_header : Version → Numbers → List ℕ
image_header One n =
    let s = first_segment n.segments in
    concat
    (magic One ∷ quadword n.code_base ∷ quadword s.base ∷ quadword n.entry
    ∷ longword n.words ∷ longword s.filled ∷ longword s.zeroed ∷ longword n.stack ∷ [])
image_header Two n =
    concat
    (magic Two ∷ quadword n.code_base ∷ quadword n.entry
    ∷ longword n.words ∷ longword n.stack ∷ longword n.level ∷ longword (length n.segments)
    ∷ flat_map segment_numbers n.segments ∷ [])

-- how many data bytes there are
abbrev pub filled_size : List Segment → ℕ
filled_size segments = sum_by (λ s. s.filled) segments
