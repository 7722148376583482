-- What an image's bytes are read as.
use Rattle.std.specs.Prelude.{ℕ, zero, suc, ◌+◌, ◌*◌, ◌==◌, List, [], ◌∷◌, length, drop, take, nat_eq, if◌then◌else◌}
use Rattle.std.specs.List.{starts_with}
use Rattle.byteorder.specs.Endian.{little_number}
use Rattle.alpha_words.specs.declared.Level.{Level}
use Rattle.alpha_words.specs.declared.Level.TheVariants as levels
use Rattle.alpha_image.specs.declared.segment.Segment.{Segment}
use Rattle.alpha_image.specs.declared.version.Version.{Version}
use Rattle.alpha_image.specs.declared.version.Version.TheVariants.{One, Two}
use Rattle.alpha_image.specs.Numbers.{Numbers}
use Rattle.alpha_image.specs.Layout.{magic, filled_size}

-- the version of bytes: those that do not begin as the second does are looked at as the first
unfoldable pub version_of : List ℕ → Version
version_of bytes = if starts_with nat_eq bytes (magic Two) then Two else One

-- the number in the eight bytes at an offset
unfoldable pub quadword_at : ℕ → List ℕ → ℕ
quadword_at offset bytes = little_number 8 (drop offset bytes)

-- the number in the four bytes at an offset
unfoldable pub longword_at : ℕ → List ℕ → ℕ
longword_at offset bytes = little_number 4 (drop offset bytes)

-- the numbers in each four bytes
abbrev pub words_of : List ℕ → List ℕ
words_of (a ∷ b ∷ c ∷ d ∷ rest) = longword_at 0 (a ∷ b ∷ c ∷ d ∷ []) ∷ words_of rest
words_of _ = []

-- the segment whose numbers the bytes begin with
abbrev pub segment_in : List ℕ → Segment
segment_in bytes = record { base = quadword_at 0 bytes; filled = longword_at 8 bytes; zeroed = longword_at 12 bytes }

-- so many segments, one behind the other
abbrev pub segments_in : ℕ → List ℕ → List Segment
segments_in zero bytes = []
segments_in (suc n) bytes = segment_in bytes ∷ segments_in n (drop 16 bytes)

-- the numbers at the front of bytes of a version, each at its offset
abbrev pub numbers_in : Version → List ℕ → Numbers
numbers_in One bytes = record {
  level = 1;
  code_base = quadword_at 8 bytes;
  entry = quadword_at 24 bytes;
  words = longword_at 32 bytes;
  stack = longword_at 44 bytes;
  segments = record { base = quadword_at 16 bytes; filled = longword_at 36 bytes; zeroed = longword_at 40 bytes } ∷ [];
}
numbers_in Two bytes = record {
  level = longword_at 32 bytes;
  code_base = quadword_at 8 bytes;
  entry = quadword_at 16 bytes;
  words = longword_at 24 bytes;
  stack = longword_at 28 bytes;
  segments = segments_in (longword_at 36 bytes) (drop 40 bytes);
}

abbrev pub numbers_of : List ℕ → Numbers
numbers_of bytes = numbers_in (version_of bytes) bytes

-- the level of a number
abbrev pub numbered_level : ℕ → Level
numbered_level n = if n == 2 then levels.Two else levels.One

-- how many bytes stand before the code
abbrev pub image_header_size : Version → Numbers → ℕ
image_header_size One n = 48
image_header_size Two n = 40 + 16 * length n.segments

-- how many bytes an image has
abbrev pub size_of : Version → Numbers → ℕ
size_of version n = image_header_size version n + 4 * n.words + filled_size n.segments

-- all that stands behind the front
unfoldable pub after_image_header : List ℕ → List ℕ
after_image_header bytes = drop (image_header_size (version_of bytes) (numbers_of bytes)) bytes

-- the code words come first
unfoldable pub words_in : List ℕ → List ℕ
words_in bytes = words_of (take (4 * (numbers_of bytes).words) (after_image_header bytes))

-- the data bytes follow them
unfoldable pub data_in : List ℕ → List ℕ
data_in bytes = drop (4 * (numbers_of bytes).words) (after_image_header bytes)
