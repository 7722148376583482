-- The lines that a session answers.
use Rattle.std.specs.Prelude.{ℕ, zero, suc, ◌+◌, ◌*◌, ◌-◌, min, if◌then◌else◌, List, [], ◌++◌, length, take, drop}
use Rattle.std.specs.Prelude.{slice_index, codes, decimal, Option, Some, None}
use Rattle.std.specs.Int.{div_ceil}
use Rattle.std.specs.Option.{option_map_or}
use Rattle.hex.specs.Hex.{encode_lower}
use Rattle.alpha_io.specs.Line.{hex_digits}
use Rattle.alpha_table.specs.Decoded.{decoded}
use Rattle.alpha_text.specs.Canon.{canon}
use Rattle.alpha_mem.specs.Intent.{Load}
use Rattle.alpha_mem.specs.Block.{Block, shapes, within}
use Rattle.alpha_mem.specs.Memory.{bytes_at}
use Rattle.alpha_image.specs.Parts.{Parts}
use Rattle.alpha_shadow.specs.declared.broken.Broken.{Broken}
use Rattle.alpha_verdict.specs.Report.{broken_line}
use Rattle.alpha_seq.specs.declared.end.End.{End}
use Rattle.alpha_seq.specs.Notes.{line_feed, end_line}

-- a text and its line feed
abbrev pub ended : List ℕ → List ℕ
ended text = text ++ line_feed

-- n lines in a row, which their numbers from 0 on give
abbrev pub rows : (ℕ → List ℕ) → ℕ → List ℕ
rows row zero = []
rows row (suc n) = rows row n ++ row n

-- `pc A`, or the line of the end
unfoldable pub where_line : Option End → ℕ → List ℕ
where_line None pc = codes "pc " ++ hex_digits pc ++ line_feed
where_line (Some end) pc = end_line end

-- the most bytes of a line of `mem`
abbrev pub row_bytes : ℕ
row_bytes = 16

-- an address, and the bytes there
unfoldable pub memory_line : ℕ → List ℕ → List ℕ
memory_line at bytes = hex_digits at ++ codes " " ++ encode_lower bytes ++ line_feed

-- the line with this number of those of some bytes that stand from an address on
abbrev pub memory_row : ℕ → List ℕ → ℕ → List ℕ
memory_row at bytes k = memory_line (at + row_bytes * k) (take row_bytes (drop (row_bytes * k) bytes))

abbrev pub bytes_lines : ℕ → List ℕ → List ℕ
bytes_lines at bytes = rows (memory_row at bytes) (div_ceil (length bytes) row_bytes)

abbrev pub bad_range : List ℕ
bad_range = ended (codes "bad range")

-- the bytes of a range, which lies within one region
abbrev pub memory_lines : List Block → ℕ → ℕ → List ℕ
memory_lines m at count = if within (shapes m) Load at count then bytes_lines at (bytes_at m at count) else bad_range

-- the address of a code word, and the canonical line of its instruction
unfoldable pub code_line : ℕ → ℕ → List ℕ
code_line at word = hex_digits at ++ codes " " ++ option_map_or canon (decoded word) [] ++ line_feed

-- the line of the k-th code word from a place on
abbrev pub code_row : Parts → ℕ → ℕ → List ℕ
code_row image place k = code_line (image.code_base + 4 * (place + k)) (slice_index image.words (place + k))

-- so many code words from a place on, to the end of the code at most
abbrev pub code_lines : Parts → Option ℕ → ℕ → List ℕ
code_lines image None count = bad_range
code_lines image (Some place) count = rows (code_row image place) (min count (length image.words - place))

-- `accepted`, or the line of the least broken place
abbrev pub verdict_line : Option Broken → ℕ → List ℕ
verdict_line None code_base = ended (codes "accepted")
verdict_line (Some broken) code_base = broken_line broken code_base

-- `overflows N last A`
unfoldable pub log_line : ℕ → ℕ → List ℕ
log_line count last = codes "overflows " ++ decimal count ++ codes " last " ++ hex_digits last ++ line_feed
