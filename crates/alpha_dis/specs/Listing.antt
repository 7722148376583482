-- The listing of an image: the lines of source that say it.
use Rattle.std.specs.Prelude.{ℕ, zero, suc, ◌+◌, ◌/◌, ◌++◌, List, [], ◌∷◌, false, codes, decimal, length, map, take}
use Rattle.std.specs.Prelude.{drop}
use Rattle.std.specs.Fmt.{digits}
use Rattle.std.specs.List.{flat_map, join_with_byte}
use Rattle.std.specs.Option.{option_map_or}
use Rattle.alpha_words.specs.Levels.{level_number}
use Rattle.alpha_table.specs.Decoded.{decoded}
use Rattle.alpha_text.specs.Canon.{canon}
use Rattle.alpha_image.specs.declared.segment.Segment.{Segment}
use Rattle.alpha_image.specs.declared.version.Version.{Version}
use Rattle.alpha_image.specs.declared.version.Version.TheVariants.{One, Two}
use Rattle.alpha_image.specs.Layout.{first_segment}
use Rattle.alpha_image.specs.Parts.{Parts, Piece, pieces}

-- a line with its line feed
abbrev pub ended : List ℕ → List ℕ
ended line = line ++ 10 ∷ []

-- lines, each with its line feed
abbrev pub text : List (List ℕ) → List ℕ
text lines = flat_map ended lines

-- `0x` and a number's hexadecimal digits in lower case, without leading zeros
unfoldable pub hexadecimal : ℕ → List ℕ
hexadecimal n = codes "0x" ++ digits 16 false n

-- a directive with an address, as `.entry 0x10000`
abbrev pub address_line : List ℕ → ℕ → List ℕ
address_line name address = name ++ 32 ∷ hexadecimal address

-- a directive with a count, as `.stack 65536`
abbrev pub count_line : List ℕ → ℕ → List ℕ
count_line name count = name ++ 32 ∷ decimal count

-- ---- the fields, and the line that begins the code

abbrev pub first_lines : Version → Parts → List (List ℕ)
first_lines One p =
    address_line (codes ".codebase") p.code_base
    ∷ address_line (codes ".database") (first_segment p.segments).base
    ∷ []
first_lines Two p =
    count_line (codes ".level") (level_number p.level)
    ∷ address_line (codes ".codebase") p.code_base
    ∷ []

abbrev pub heading : Parts → List (List ℕ)
heading p =
    first_lines p.version p
    ++ count_line (codes ".stack") p.stack ∷ address_line (codes ".entry") p.entry ∷ codes ".code" ∷ []

-- ---- the code

-- the canonical line of a word's instruction; an image has no word without one
abbrev pub code_line : ℕ → List ℕ
code_line word = option_map_or canon (decoded word) []

-- ---- the data

-- so many rows of 16 bytes, the last of which may be shorter
abbrev pub rows_of : ℕ → List ℕ → List (List ℕ)
rows_of zero bytes = []
rows_of (suc n) bytes = take 16 bytes ∷ rows_of n (drop 16 bytes)

-- all of the bytes in such rows
abbrev pub rows : List ℕ → List (List ℕ)
rows bytes = rows_of ((length bytes + 15) / 16) bytes

-- `.byte` and the decimal values, with commas between them
abbrev pub byte_line : List ℕ → List ℕ
byte_line bytes = codes ".byte " ++ join_with_byte 44 (map decimal bytes)

-- the line that begins a segment
abbrev pub segment_line : Version → ℕ → List ℕ
segment_line One base = codes ".data"
segment_line Two base = address_line (codes ".segment") base

-- a segment with its data bytes
abbrev pub piece_of : Segment → List ℕ → Piece
piece_of s bytes = record { base = s.base; bytes = bytes; zeroed = s.zeroed }

-- the lines of a segment: its data bytes, and how many zero bytes follow them
abbrev pub piece_lines : Version → Piece → List (List ℕ)
piece_lines version piece =
    segment_line version piece.base ∷ (map byte_line (rows piece.bytes) ++ count_line (codes ".zero") piece.zeroed ∷ [])

-- ---- the whole

unfoldable pub lines : Parts → List (List ℕ)
lines p = heading p ++ (map code_line p.words ++ flat_map (piece_lines p.version) (pieces p))

unfoldable pub listing : Parts → List ℕ
listing p = text (lines p)
