-- What the code of a session did against its definition, where the sink may tell nothing. What was written may still
-- wait in a block.
use Rattle.std.specs.Prelude.{◌≡◌, ◌⊎◌, ℕ, ◌+◌, ◌-◌, ◌≤◌, ◌==◌, Bool, true, false, IsTrue, List, [], ◌++◌, length, All}
use Rattle.std.specs.Prelude.{take, Option}
use Rattle.std.specs.Io.KnownBytes.{Consumes}
use Rattle.alpha_io.specs.History.{HasGiven}
use Rattle.alpha_io.specs.Supply.{Supply}
use Rattle.alpha_io.specs.Faults.{Faulted}
use Rattle.alpha_pal.specs.CallEffect.{Takes}
use Rattle.alpha_image.specs.Parts.{Parts}
use Rattle.alpha_seq.specs.Devices.{Drawn}
use Rattle.alpha_seq.specs.declared.machine.Machine.{Machine}
use Rattle.alpha_seq.specs.declared.end.End.{End}
use Rattle.alpha_seq.specs.Machine.{program_of, state_of}
use Rattle.alpha_debug.specs.declared.watcher.Until.{Until}
use Rattle.alpha_debug.specs.declared.debugger.Debugger.{Debugger}
use Rattle.alpha_debug.specs.declared.command.Command.{Command}
use Rattle.alpha_debug.specs.declared.debugger.SessionState.{SessionState}
use Rattle.alpha_debug.specs.declared.debugger.SessionState.TheVariants.{Continues, Quits}
use Rattle.alpha_debug.specs.declared.end.DebugEnd.{DebugEnd}
use Rattle.alpha_debug.specs.declared.end.DebugEnd.TheVariants.{Done, InputFault, SinkFault, TooLarge, NoMemory}
use Rattle.alpha_io.specs.declared.sink.Sink.{Ghosts}
use Rattle.alpha_debug.specs.OutputChange.{OutputChange, output_change, AppendsOutput, SinkFailsWith}
use Rattle.alpha_debug.specs.Session.{Setting, Session, IsSetting, opened, text_of, step_until, answer}
use Rattle.alpha_debug.specs.Script.{Transcript, transcript_from, lines_within, script_limit}
use Rattle.alpha_debug.specs.Handed.{Stops, HandsEach, lines_come}

-- ---- writing

-- a text goes on with some bytes
pub record Grows (front text : List ℕ) : Type 0 where
  pub bytes : List ℕ
  pub is : text ≡ front ++ bytes

-- the sink failed, with a prefix written of what a text has behind its front
pub record FailsBehind (s : OutputChange) (front text : List ℕ) : Type 0 where
  pub bytes : List ℕ
  pub is : text ≡ front ++ bytes
  pub stops : SinkFailsWith s bytes

-- ---- a machine with no input

-- the steps of the definition
pub record StepsUntil (wanted : Until) (points : List ℕ) (most : ℕ) (end : Option End) (old new : Machine)
    (out : OutputChange) : Type 0 where
  pub bytes : List ℕ
  pub wrote : AppendsOutput out bytes
  pub is : (text : List ℕ)
      → step_until (program_of old) wanted points most (state_of old) text
      ≡ record { state = state_of new; text = text ++ bytes; end = end }

abbrev pub StepUntilFails : Until → List ℕ → ℕ → Machine → OutputChange → Type 0
StepUntilFails wanted points most old out = (text : List ℕ)
    → FailsBehind out text (step_until (program_of old) wanted points most (state_of old) text).text

-- the program puts nothing in the steps of the definition
abbrev pub PutsNothing : Until → List ℕ → ℕ → Machine → Type 0
PutsNothing wanted points most old =
    (text : List ℕ) → (step_until (program_of old) wanted points most (state_of old) text).text ≡ text

-- ---- a session

-- how a session stands that has written a text
abbrev pub session_of : Debugger → List ℕ → Session
session_of d text =
    record { state = state_of d.machine; text = text; points = d.watcher.points.items; end = d.end; over = false }

abbrev pub setting_of : Debugger → Setting
setting_of d = record { program = program_of d.machine; verdict = d.verdict }

-- what was put of what a session says, and what waits in its block
abbrev pub session_output : {K : Type 0} → Ghosts K → K → Debugger → K → Debugger → OutputChange
session_output g o old p new = output_change g o old.watcher.block p new.watcher.block

-- the same session but for what waits
abbrev pub with_block : Debugger → List ℕ → Debugger
with_block d waits = record d { watcher = record d.watcher { block = waits } }

-- what no command changes: the setting, and the mode of the kernel
pub record Remains (old new : Debugger) : Type 0 where
  pub setting : setting_of new ≡ setting_of old
  pub mode : new.machine.kernel.user ≡ old.machine.kernel.user

-- it did what the definition says, and wrote what that says
pub record SessionEffect (becomes : Session → Session) (old new : Debugger) (out : OutputChange) : Type 0 where
  pub bytes : List ℕ
  pub wrote : AppendsOutput out bytes
  pub is : (text : List ℕ) → becomes (session_of old text) ≡ session_of new (text ++ bytes)

-- the sink failed, with a prefix written of what the definition says
abbrev pub Fails : (Session → Session) → Debugger → OutputChange → Type 0
Fails becomes old out = (text : List ℕ) → FailsBehind out text (text_of (becomes (session_of old text)))

-- the program puts nothing
abbrev pub IsQuiet : (Session → Session) → Debugger → Type 0
IsQuiet becomes old = (text : List ℕ) → text_of (becomes (session_of old text)) ≡ text

-- the program put nothing, or nothing waits behind what it put
abbrev pub HandsSteps : (Session → Session) → Debugger → Debugger → Type 0
HandsSteps becomes old new = IsQuiet becomes old ⊎ (new.watcher.block ≡ [])

-- a session whose program stands at its start, and which has nothing to put
pub record IsOpened (image : Parts) (d : Debugger) : Type 0 where
  pub block : d.watcher.block ≡ []
  pub setting : IsSetting image (setting_of d)
  pub start : session_of d [] ≡ opened (setting_of d)
  pub mode : IsTrue d.machine.kernel.user

-- ---- commands

abbrev pub has_quit : SessionState → Bool
has_quit Continues = false
has_quit Quits = true

-- how a session stands behind a command
abbrev pub left_by : SessionState → Debugger → List ℕ → Session
left_by talk d text = record (session_of d text) { over = has_quit talk }

-- it answered a command as the definition does
pub record Answers (command : Command) (talk : SessionState) (old new : Debugger) (out : OutputChange) : Type 0 where
  pub bytes : List ℕ
  pub wrote : AppendsOutput out bytes
  pub is : (text : List ℕ) → answer (setting_of old) command (session_of old text) ≡ left_by talk new (text ++ bytes)

abbrev pub AnswerFails : Command → Debugger → OutputChange → Type 0
AnswerFails command old out = Fails (answer (setting_of old) command) old out

-- ---- a script

-- the line in hand, of which so many bytes are held at most
pub record IsPendingLine (begun held : List ℕ) : Type 0 where
  pub front : held ≡ take 1026 begun
  pub line : All (λ b. (b == 10) ≡ false) begun

-- the transcript of a script, from how a session stands that has written a text
abbrev pub told_from : Debugger → List ℕ → ℕ → List ℕ → List ℕ → Transcript
told_from d text most begun script = transcript_from (setting_of d) (session_of d text) most begun script

-- what comes of the rest of a script, by whether `quit` came
abbrev pub told_after : SessionState → Debugger → List ℕ → ℕ → List ℕ → List ℕ → Transcript
told_after Continues d text most begun rest = told_from d text most begun rest
told_after Quits d text most begun rest = record { text = text; end = Done }

-- it answered the lines that end within some bytes of a script, behind a line begun
pub record FeedsBytes (bytes begun : List ℕ) (talk : SessionState) (old new : Debugger) (held : List ℕ)
    (out : OutputChange) : Type 0 where
  pub put : List ℕ
  pub line : List ℕ
  pub wrote : AppendsOutput out put
  pub pending_is : IsPendingLine line held
  pub is : (text : List ℕ) (most : ℕ) (rest : List ℕ) → length bytes ≤ most
      → told_from old text most begun (bytes ++ rest)
      ≡ told_after talk new (text ++ put) (most - length bytes) line rest

abbrev pub FeedFails : List ℕ → List ℕ → Debugger → OutputChange → Type 0
FeedFails bytes begun old out = (text : List ℕ) (most : ℕ) (rest : List ℕ) → length bytes ≤ most
    → FailsBehind out text (told_from old text most begun (bytes ++ rest)).text

-- the last line of a script was answered, which no line feed ends
pub record Closes (begun : List ℕ) (d : Debugger) (out : OutputChange) : Type 0 where
  pub put : List ℕ
  pub wrote : AppendsOutput out put
  pub is : (text : List ℕ) (most : ℕ) → told_from d text most begun [] ≡ record { text = text ++ put; end = Done }

abbrev pub CloseFails : List ℕ → Debugger → OutputChange → Type 0
CloseFails begun d out = (text : List ℕ) (most : ℕ) → FailsBehind out text (told_from d text most begun []).text

-- what the end of a script did, by its answer
abbrev pub CloseEffect : DebugEnd → List ℕ → Debugger → OutputChange → Type 0
CloseEffect Done begun d out = Closes begun d out
CloseEffect SinkFault begun d out = CloseFails begun d out
CloseEffect end begun d out = ⊥

-- ---- what is handed over

-- what a session hands over from one moment of its sink on, that goes on over a script behind a line begun
abbrev pub hands_from : {K : Type 0} → Ghosts K → DebugEnd → K → Debugger → List ℕ → ℕ → List ℕ → List ℕ → K → Type 0
hands_from k end last d text most begun script sink =
    HandsEach k (setting_of d) end last (session_of d text) (lines_within most begun script) sink d.watcher.block

-- over the rest of a script, by whether `quit` came
abbrev pub hands_after : {K : Type 0} → Ghosts K → SessionState → DebugEnd → K → Debugger → List ℕ → ℕ → List ℕ → List ℕ
    → K → Type 0
hands_after k Continues end last d text most begun rest sink = hands_from k end last d text most begun rest sink
hands_after k Quits end last d text most begun rest sink = (lines : List (List ℕ))
    → Stops k (setting_of d) end last (left_by Quits d text) lines sink d.watcher.block

-- the lines that end within some bytes of a script were answered, and handed over each, between two moments of the sink
pub record Carries {K : Type 0} (k : Ghosts K) (bytes begun : List ℕ) (talk : SessionState) (old new : Debugger)
    (held : List ℕ) (o p : K) : Type 0 where
  pub put : List ℕ
  pub line : List ℕ
  pub pending_is : IsPendingLine line held
  pub on : (end : DebugEnd) (last : K) (text : List ℕ) (most : ℕ) (rest : List ℕ) → length bytes ≤ most
      → hands_after k talk end last new (text ++ put) (most - length bytes) line rest p
      → hands_from k end last old text most begun (bytes ++ rest) o

-- the sink failed among them
abbrev pub CarryFails : {K : Type 0} → Ghosts K → List ℕ → List ℕ → Debugger → K → K → Type 0
CarryFails k bytes begun old o p = (text : List ℕ) (most : ℕ) (rest : List ℕ) → length bytes ≤ most
    → hands_from k SinkFault p old text most begun (bytes ++ rest) o

-- the end of a script
abbrev pub HandsLast : {K : Type 0} → Ghosts K → DebugEnd → List ℕ → Debugger → K → K → Type 0
HandsLast k end begun d o p = (text : List ℕ) (most : ℕ) → hands_from k end p d text most begun [] o

-- a whole session
pub record HandsAll {K : Type 0} (d : Debugger) (script : Drawn) (k : Ghosts K) (end : DebugEnd) (old new : K)
    : Type 0 where
  pub taken : List ℕ
  pub calls : HasGiven script.old.replies script.new.replies taken
  pub each : HandsEach k (setting_of d) end new (session_of d []) (lines_come end taken) old d.watcher.block

-- ---- a whole session

-- these bytes were taken of a script
pub record Gets (old new : Supply) (bytes : List ℕ) : Type 0 where
  pub consumed : Consumes old.left new.left bytes
  pub calls : HasGiven old.replies new.replies bytes

-- these bytes of the script were taken, and the rest is left
pub record Reads (script : Drawn) (taken rest : List ℕ) : Type 0 where
  pub took : Takes script.old.left script.new.left taken rest
  pub calls : HasGiven script.old.replies script.new.replies taken
  pub most : length taken ≤ script_limit + 1

-- a session to its end
pub record Tells (d : Debugger) (end : DebugEnd) (script : Drawn) (out : OutputChange) : Type 0 where
  pub taken : List ℕ
  pub rest : List ℕ
  pub put : List ℕ
  pub reads : Reads script taken rest
  pub same : script.now ≡ script.before
  pub wrote : AppendsOutput out put
  pub is : (text : List ℕ) → told_from d text script_limit [] (taken ++ rest) ≡ record { text = text ++ put; end = end }
  pub alone : (text : List ℕ) → told_from d text script_limit [] taken ≡ record { text = text ++ put; end = end }

-- a session whose script failed: it has written a prefix of the transcript
pub record ReadingFails (d : Debugger) (script : Drawn) (out : OutputChange) : Type 0 where
  pub taken : List ℕ
  pub rest : List ℕ
  pub put : List ℕ
  pub reads : Reads script taken rest
  pub later : script.before ≤ script.now
  pub cause : Faulted script.before script.now
  pub wrote : AppendsOutput out put
  pub more : (text : List ℕ) → Grows (text ++ put) (told_from d text script_limit [] (taken ++ rest)).text

-- a session whose sink failed
pub record SessionSinkFails (d : Debugger) (script : Drawn) (out : OutputChange) : Type 0 where
  pub taken : List ℕ
  pub rest : List ℕ
  pub reads : Reads script taken rest
  pub same : script.now ≡ script.before
  pub breaks : (text : List ℕ) → FailsBehind out text (told_from d text script_limit [] (taken ++ rest)).text

-- what a session did that was made, by its answer
abbrev pub TellEffect : DebugEnd → Debugger → Drawn → OutputChange → Type 0
TellEffect Done d script out = Tells d Done script out
TellEffect TooLarge d script out = Tells d TooLarge script out
TellEffect InputFault d script out = ReadingFails d script out
TellEffect SinkFault d script out = SessionSinkFails d script out
TellEffect NoMemory d script out = ⊥
