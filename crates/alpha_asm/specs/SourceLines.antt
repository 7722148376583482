-- The lines of a source with their ends.
use Rattle.std.specs.Prelude.{◌≡◌, ℕ, List, [], ◌∷◌, ◌++◌, ◌==◌, Bool, true, false, if◌then◌else◌}
use Rattle.std.specs.Str.Lines.{strip_carriage_return}
use Rattle.alpha_text.specs.Reading.{LineStmt}
use Rattle.alpha_asm.specs.declared.lines.Line.{Line}
use Rattle.alpha_asm.specs.Assembled.{item_at}

-- a line that ends with a line feed, or the last one without
pub data SourceLine : Type 0 where
  ended : (bytes : List ℕ) → SourceLine
  unended : (bytes : List ℕ) → SourceLine

-- its bytes, with the line feed
abbrev pub line_bytes : SourceLine → List ℕ
line_bytes (ended bytes) = bytes ++ 10 ∷ []
line_bytes (unended bytes) = bytes

-- what it says: one carriage return before the line feed belongs to the line's end
abbrev pub line_text : SourceLine → List ℕ
line_text (ended bytes) = strip_carriage_return bytes
line_text (unended bytes) = bytes

-- with a line feed, if it has none
abbrev pub with_feed : SourceLine → SourceLine
with_feed (ended bytes) = ended bytes
with_feed (unended bytes) = ended bytes

abbrev pub is_ended : SourceLine → Bool
is_ended (ended bytes) = true
is_ended (unended bytes) = false

-- lines with a further byte before them
abbrev pub longer : ℕ → List SourceLine → List SourceLine
longer b [] = unended (b ∷ []) ∷ []
longer b (ended bytes ∷ lines) = ended (b ∷ bytes) ∷ lines
longer b (unended bytes ∷ lines) = unended (b ∷ bytes) ∷ lines

-- the lines of a source
abbrev pub source_lines : List ℕ → List SourceLine
source_lines [] = []
source_lines (b ∷ source) = if b == 10 then ended [] ∷ source_lines source else longer b (source_lines source)

abbrev pub line_item : SourceLine → LineStmt
line_item line = item_at (line_text line)

-- a line as the code has it
pub record Is (line : SourceLine) (l : Line) : Type 0 where
  pub text : line_text line ≡ l.text.now
  pub bytes : line_bytes line ≡ l.bytes.now
  pub ended : is_ended line ≡ l.ended

-- the first line of a source
pub record IsFirst (source : List ℕ) (l : Line) : Type 0 where
  pub line : SourceLine
  pub is : Is line l
  pub lines : source_lines source ≡ line ∷ source_lines l.rest.now
