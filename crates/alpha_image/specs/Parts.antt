-- What an image is made of, which images are good, and the one spelling of each.
use Rattle.std.specs.Prelude.{◌≡◌, ◌++◌, drop, take, ℕ, ◌+◌, ◌*◌, ◌-◌, ◌/◌, ◌%◌, ◌^◌, ◌<◌, ◌≤◌, List, [], ◌∷◌, length}
use Rattle.std.specs.Prelude.{All, IsSomeAnd, Option, Some, None, ◌==◌, ◌&&◌, nat_le, nat_lt, if◌then◌else◌}
use Rattle.std.specs.List.{flat_map}
use Rattle.alpha_words.specs.declared.Level.{Level}
use Rattle.alpha_words.specs.Levels.{level_number}
use Rattle.alpha_table.specs.Words.{class_in, level_in}
use Rattle.alpha_image.specs.declared.segment.Segment.{Segment}
use Rattle.alpha_image.specs.declared.version.Version.{Version}
use Rattle.alpha_image.specs.declared.version.Version.TheVariants.{One, Two}
use Rattle.alpha_image.specs.Numbers.{Numbers}
use Rattle.alpha_image.specs.Rules.{FieldsFit}
use Rattle.alpha_image.specs.Layout.{longword, image_header, filled_size}

-- The version, the level, addresses, how many stack bytes, the data segments, the code words, and the data bytes
-- of all segments in order.
pub record Parts : Type 0 where
  pub version : Version
  pub level : Level
  pub code_base : ℕ
  pub entry : ℕ
  pub stack : ℕ
  pub segments : List Segment
  pub words : List ℕ
  pub bytes : List ℕ

-- the numbers that an image of these parts begins with
abbrev pub numbers : Parts → Numbers
numbers p = record {
  level = level_number p.level;
  code_base = p.code_base;
  entry = p.entry;
  words = length p.words;
  stack = p.stack;
  segments = p.segments;
}

-- an image of the first version has the first level and one segment
abbrev pub SuitsVersion : Version → Numbers → Type 0
SuitsVersion One n = (n.level ≡ 1) × (length n.segments ≡ 1)
SuitsVersion Two n = Unit {0}

-- an instruction of the first level is there at the second
abbrev pub IsWithin : Level → Level → Type 0
IsWithin own level = level_number own ≤ level_number level

-- a word of the table whose instruction is there at the level
abbrev pub IsCodeWord : Level → ℕ → Type 0
IsCodeWord level word = (word < 2 ^ 32) × IsSomeAnd (class_in word) (λ class. IsWithin (level_in class) level)

abbrev pub IsByte : ℕ → Type 0
IsByte byte = byte < 256

-- a good image: no field is bad, each word is in the table at the image's level, and there are as many data bytes
-- as the segments say
pub record IsImage (p : Parts) : Type 0 where
  pub version : SuitsVersion p.version (numbers p)
  pub fields : FieldsFit (numbers p)
  pub words : All (IsCodeWord p.level) p.words
  pub bytes : All IsByte p.bytes
  pub filled : length p.bytes ≡ filled_size p.segments

-- the front, the code words and the data bytes
unfoldable pub image_spelling : Parts → List ℕ
image_spelling p = image_header p.version (numbers p) ++ (flat_map longword p.words ++ p.bytes)

-- The place of the code word at an address: there is none at an address that is no multiple of 4 or
-- lies outside the code.
unfoldable pub place_of : Parts → ℕ → Option ℕ
place_of p address =
    if address % 4 == 0 && (nat_le p.code_base address && nat_lt address (p.code_base + 4 * length p.words))
    then Some ((address - p.code_base) / 4) else None

-- a data segment with its bytes: they stand at the base, and so many zero bytes behind them
pub record Piece : Type 0 where
  pub base : ℕ
  pub bytes : List ℕ
  pub zeroed : ℕ

-- the segments with their shares of the bytes
abbrev pub pieces_of : List Segment → List ℕ → List Piece
pieces_of [] bytes = []
pieces_of (s ∷ rest) bytes =
    record { base = s.base; bytes = take s.filled bytes; zeroed = s.zeroed } ∷ pieces_of rest (drop s.filled bytes)

abbrev pub pieces : Parts → List Piece
pieces p = pieces_of p.segments p.bytes
