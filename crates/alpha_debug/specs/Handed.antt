-- What a session has handed to its sink as each line of its script is begun.
use Rattle.std.specs.Prelude.{◌≡◌, ◌⊎◌, ℕ, true, false, List, [], ◌∷◌, ◌++◌}
use Rattle.alpha_io.specs.declared.sink.Sink.{Ghosts}
use Rattle.alpha_io.specs.History.{HasGiven}
use Rattle.alpha_io.specs.SinkChange.{sink_change, Puts}
use Rattle.alpha_image.specs.Parts.{Parts}
use Rattle.alpha_seq.specs.Devices.{Drawn}
use Rattle.alpha_debug.specs.declared.command.Command.{Command}
use Rattle.alpha_debug.specs.declared.end.DebugEnd.{DebugEnd}
use Rattle.alpha_debug.specs.declared.end.DebugEnd.TheVariants.{InputFault, SinkFault}
use Rattle.alpha_debug.specs.Command.{command_of}
use Rattle.alpha_debug.specs.OutputChange.{OutputChange, output_change, AppendsOutput, CutShort}
use Rattle.alpha_debug.specs.Session.{Setting, Session, IsSetting, opened, text_of, behind_steps, answer}
use Rattle.alpha_debug.specs.Script.{parts, ended_parts, lines_within, script_limit}

-- A line was answered. Of what waited and of the answer behind it the first bytes were put, and the others wait. Where
-- the program put something in that line, none waits.
pub record HandsLine (g : Setting) (command : Command) (s : Session) (out : OutputChange) : Type 0 where
  pub bytes : List ℕ
  pub is : text_of (answer g command s) ≡ text_of s ++ bytes
  pub wrote : AppendsOutput out bytes
  pub handed : (text_of (behind_steps g command s) ≡ text_of s) ⊎ (out.new ≡ [])

-- ---- where a session stops

-- it has answered all lines, to a `quit`, and put what waited
pub record IsHandedOver {K : Type 0} (k : Ghosts K) (last : K) (s : Session) (lines : List (List ℕ)) (sink : K)
    (waits : List ℕ) : Type 0 where
  pub over : (s.over ≡ true) ⊎ (lines ≡ [])
  pub puts : Puts (sink_change k sink last) waits

-- what the session has written behind the next line, if there is one
abbrev pub text_behind : Setting → Session → List (List ℕ) → List ℕ
text_behind g s [] = text_of s
text_behind g s (line ∷ more) = text_of (answer g (command_of line) s)

-- the sink failed, with a prefix written of what waited and of the answer to the next line
pub record IsHandedInPart {K : Type 0} (k : Ghosts K) (g : Setting) (last : K) (s : Session) (lines : List (List ℕ))
    (sink : K) (waits : List ℕ) : Type 0 where
  pub bytes : List ℕ
  pub is : text_behind g s lines ≡ text_of s ++ bytes
  pub stops : CutShort (sink_change k sink last) (waits ++ bytes)

-- by the session's end
abbrev pub Stops : {K : Type 0} → Ghosts K → Setting → DebugEnd → K → Session → List (List ℕ) → K → List ℕ → Type 0
Stops k g SinkFault last s lines sink waits = IsHandedInPart k g last s lines sink waits
Stops k g end last s lines sink waits = IsHandedOver k last s lines sink waits

-- ---- the lines in a row

-- From where a session stands, with these lines to come, this sink and these bytes that wait: it stops here, or the
-- next line is answered. The sink is then at its next moment, at which the line behind that one is begun.
abbrev pub HandsEach : {K : Type 0} → Ghosts K → Setting → DebugEnd → K → Session → List (List ℕ) → K → List ℕ → Type 0
HandsEach k g end last s [] sink waits = Stops k g end last s [] sink waits
HandsEach k g end last s (line ∷ more) sink waits =
    Stops k g end last s (line ∷ more) sink waits
    ⊎ ((s.over ≡ false) × (next : _) × (left : List ℕ)
    × HandsLine g (command_of line) s (output_change k sink waits next left)
    × HandsEach k g end last (answer g (command_of line) s) more next left)

-- The lines of the bytes that were taken: where the script failed, those that line feeds end.
abbrev pub lines_come : DebugEnd → List ℕ → List (List ℕ)
lines_come InputFault taken = ended_parts (parts taken)
lines_come end taken = lines_within script_limit [] taken

-- A session that ended so, from one moment of the sink to another: its source gave some bytes, and each of their lines
-- was answered, and what the program put in it was put, before the next one was begun.
pub record Hands {K : Type 0} (image : Parts) (script : Drawn) (k : Ghosts K) (end : DebugEnd) (old new : K)
    : Type 0 where
  pub setting : Setting
  pub is_setting : IsSetting image setting
  pub taken : List ℕ
  pub calls : HasGiven script.old.replies script.new.replies taken
  pub each : HandsEach k setting end new (opened setting) (lines_come end taken) old []
