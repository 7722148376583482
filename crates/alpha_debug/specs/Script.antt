-- A session over the lines of a script: its transcript.
use Rattle.std.specs.Prelude.{◌≡◌, ℕ, ◌==◌, ◌&&◌, not, nat_le, nat_lt, if◌then◌else◌, List, [], ◌∷◌, ◌++◌, length, take}
use Rattle.std.specs.List.{slice_split}
use Rattle.std.specs.Str.Lines.{lines_of_parts, strip_carriage_return}
use Rattle.alpha_image.specs.Parts.{Parts}
use Rattle.alpha_debug.specs.declared.end.DebugEnd.{DebugEnd}
use Rattle.alpha_debug.specs.declared.end.DebugEnd.TheVariants.{Done, TooLarge}
use Rattle.alpha_debug.specs.Command.{command_of}
use Rattle.alpha_debug.specs.Session.{Setting, Session, IsSetting, opened, text_of, answer}

-- ---- lines

-- what stands between the line feeds
abbrev pub parts : List ℕ → List (List ℕ)
parts bytes = slice_split (λ b. b == 10) bytes

-- the lines that line feeds end: each part but the last, without a carriage return at its end
abbrev pub ended_parts : List (List ℕ) → List (List ℕ)
ended_parts [] = []
ended_parts (part ∷ []) = []
ended_parts (part ∷ next ∷ more) = strip_carriage_return part ∷ ended_parts (next ∷ more)

-- all lines, and what stands behind the last line feed where it isn't empty
abbrev pub all_lines : List ℕ → List (List ℕ)
all_lines bytes = lines_of_parts (parts bytes)

-- how many bytes of a script count
abbrev pub script_limit : ℕ
script_limit = 1048576

-- The lines that count, of what stands behind a line begun of which so many more bytes count: all lines, or, where
-- there are further bytes, those that end before them.
abbrev pub lines_within : ℕ → List ℕ → List ℕ → List (List ℕ)
lines_within most begun script =
    if nat_le (length script) most then all_lines (begun ++ script) else ended_parts (parts (begun ++ take most script))

-- ---- the session

-- the answers to lines in a row, to a `quit`
abbrev pub answers : Setting → Session → List (List ℕ) → Session
answers g s [] = s
answers g s (line ∷ more) = if s.over then s else answers g (answer g (command_of line) s) more

-- what a session has written, and how it ended
pub record Transcript : Type 0 where
  pub text : List ℕ
  pub end : DebugEnd

-- a session is too large where the script goes on past the bytes that count and no `quit` came
abbrev pub closed : ℕ → List ℕ → Session → Transcript
closed most script s = record {
  text = text_of s;
  end = (if nat_lt most (length script) && not s.over then TooLarge else Done);
}

-- a session that goes on over a script, behind a line begun
abbrev pub transcript_from : Setting → Session → ℕ → List ℕ → List ℕ → Transcript
transcript_from g s most begun script = closed most script (answers g s (lines_within most begun script))

-- the whole session over a script
unfoldable pub transcript : Setting → List ℕ → Transcript
transcript g script = transcript_from g (opened g) script_limit [] script

-- the transcript of a script at an image
pub record IsTranscript (image : Parts) (script : List ℕ) (t : Transcript) : Type 0 where
  pub setting : Setting
  pub is_setting : IsSetting image setting
  pub is : t ≡ transcript setting script
