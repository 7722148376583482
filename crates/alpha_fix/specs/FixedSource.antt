-- A source with a barrier at each of some places of its code.
use Rattle.std.specs.Prelude.{ℕ, ◌+◌, ◌==◌, ◌&&◌, ◌++◌, Bool, true, false, List, [], ◌∷◌, codes, length, filter}
use Rattle.std.specs.Prelude.{is_some, if◌then◌else◌}
use Rattle.std.specs.List.{flat_map, list_any}
use Rattle.alpha_text.specs.Reading.{LineStmt}
use Rattle.alpha_asm.specs.Statement.{coded}
use Rattle.alpha_asm.specs.SourceLines.{SourceLine, ended, line_bytes, with_feed, source_lines, line_item}

-- whether a place is among the cuts
abbrev pub is_cut : List ℕ → ℕ → Bool
is_cut cuts place = list_any (λ cut. cut == place) cuts

-- the line of a barrier, which ends with a line feed whatever ends the others
abbrev pub trapb_line : SourceLine
trapb_line = ended (codes "trapb")

-- whether an item is an instruction
abbrev pub has_insn : LineStmt → Bool
has_insn i = is_some (coded i.statement)

-- whether a line has the word of an instruction
abbrev pub has_word : SourceLine → Bool
has_word line = has_insn (line_item line)

-- how many words a source has
abbrev pub word_count : List ℕ → ℕ
word_count source = length (filter has_word (source_lines source))

-- a barrier, if there is to be one
abbrev pub bar_if : {A : Type 0} → Bool → A → List A
bar_if true bar = bar ∷ []
bar_if false bar = []

-- a line, with a barrier behind it if there is to be one
abbrev pub then_bar : Bool → SourceLine → List SourceLine
then_bar true line = with_feed line ∷ trapb_line ∷ []
then_bar false line = line ∷ []

-- The lines of a source of so many words, those from one with so many words before it on: a barrier stands directly
-- before the line of each word at a cut, and directly behind the line of the last word for a cut at the end.
abbrev pub fixed_lines : (ℕ → Bool) → ℕ → ℕ → List SourceLine → List SourceLine
fixed_lines cut words place [] = []
fixed_lines cut words place (line ∷ lines) =
    if has_word line
    then bar_if (cut place) trapb_line
    ++ (then_bar (place + 1 == words && cut words) line ++ fixed_lines cut words (place + 1) lines)
    else line ∷ fixed_lines cut words place lines

-- the source with a barrier at each cut
unfoldable pub fixed_source : List ℕ → List ℕ → List ℕ
fixed_source source cuts = flat_map line_bytes (fixed_lines (is_cut cuts) (word_count source) 0 (source_lines source))
