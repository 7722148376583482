-- What is promised of every call, by its words, its status and what it did to its devices.
use Rattle.std.specs.Prelude.{◌≡◌, ◌≢◌, ◌⊎◌, ℕ, false, List}
use Rattle.alpha_io.specs.Faults.{Faulted}
use Rattle.alpha_io.specs.Files.{KeepsFiles}
use Rattle.alpha_io.specs.ShelfChange.{ShelfChange}
use Rattle.alpha_request.specs.Command.{Command, debug}
use Rattle.alpha_request.specs.Commands.Run as run_words
use Rattle.alpha_request.specs.Origin.{Origin}
use Rattle.alpha_request.specs.declared.options.RunOptions.{RunOptions}
use Rattle.alpha_seq.specs.Devices.{Drawn}
use Rattle.alpha_trap.specs.declared.handler.Lost.{Lost}
use Rattle.alpha_cmd.specs.declared.status.Status.{Status}
use Rattle.alpha_cmd.specs.declared.status.Status.TheVariants.{ShelfFault, InputFault, SinkFault}
use Rattle.alpha_cmd.specs.declared.status.Status.TheVariants as statuses
use Rattle.alpha_cmd.specs.Status.{class_of, ended}
use Rattle.alpha_cmd.specs.Answer.{Answer}
use Rattle.alpha_cmd.specs.Asks.{AsksFor}
use Rattle.alpha_cmd.specs.Call.{Call, NoDeviceFault}
use Rattle.alpha_cmd.specs.Commands.{AnswerOf, EndsBy, MayTake, Spares}
use Rattle.alpha_cmd.specs.OfImage.Debug.{LeavesOfScript}
use Rattle.alpha_cmd.specs.Ends.{EndsCall, EndsPart}
use Rattle.alpha_cmd.specs.Answered.{Answered}
use Rattle.alpha_cmd.specs.AnswerBy.{told}
use Rattle.alpha_cmd.specs.Kept.{file, Serves}
use Rattle.alpha_cmd.specs.Tried.{AreTold, IsAnswer, IsGiven, AttemptedBy}
use Rattle.alpha_cmd.specs.Attempts.{CountStays}

-- ---- what was written

-- what such a call tries
abbrev pub tried_in : List (List ℕ) → Call → Answer → Type 0
tried_in words c = AttemptedBy (Faulted c.shelf.before c.shelf.now) (Faulted c.input.before c.input.now) words (told c)

-- The status, all that is written and the input left are an answer to the words, or what a fault of the shelf or of the
-- input or want of memory leaves of it.
abbrev pub EndsWhole : List (List ℕ) → Status → Call → Type 0
EndsWhole words status c =
    status ≢ SinkFault → EndsCall (tried_in words c) status c.input.new.left c.shelf c.out c.notes

-- Where something couldn't be written, a sink failed, and a prefix of that was written.
abbrev pub EndsCut : List (List ℕ) → Status → Call → Type 0
EndsCut words status c = status ≡ SinkFault → EndsPart (tried_in words c) c.shelf c.out c.notes

-- Where no device fails, one of the words' answers is given, or memory ran out.
abbrev pub GivesOne : List (List ℕ) → Status → Call → Type 0
GivesOne words status c = NoDeviceFault c → IsGiven words (told c) status c.input.new.left c.shelf c.out c.notes

-- Where what the words' command reads is told and no device fails, the words' answer is given, or memory ran out.
abbrev pub GivesThe : List (List ℕ) → Status → Call → Type 0
GivesThe words status c =
    (a : Answer) → AreTold words (told c) → NoDeviceFault c → IsAnswer words (told c) a → Answered a status c

-- ---- files and input

-- The shelf fails only under its status, or under that of a sink.
abbrev pub ServesUnder : Status → ShelfChange → Type 0
ServesUnder status s = Serves s ((status ≢ ShelfFault) × (status ≢ SinkFault))

-- A keep failed with the shelf, of the file that an answer of the command keeps.
abbrev pub MaySpoil : Command → Call → Type 0
MaySpoil command c =
    Faulted c.shelf.before c.shelf.now
    × (name : List ℕ) × (bytes : List ℕ) × (a : Answer) × AnswerOf command (told c) a × (a.kept ≡ file name bytes)

-- Told files stay, but for the one that the words' command keeps; under the status of a shelf's fault but for one whose
-- keep failed.
abbrev pub SparesFiles : List (List ℕ) → Status → Call → Type 0
SparesFiles words status c =
    KeepsFiles c.shelf.old c.shelf.new
    ⊎ ((command : Command) × AsksFor words command × Spares command status c.shelf.old c.shelf.new
    × (status ≡ ShelfFault → MaySpoil command c))

-- Input may be taken by a run or a session that was begun.
abbrev pub TakesInput : List (List ℕ) → Status → Type 0
TakesInput words status = (command : Command) × AsksFor words command × MayTake command status

-- It fails only under its status, or under that of a sink.
abbrev pub DrawsUnder : Status → Drawn → Type 0
DrawsUnder status d = CountStays d ((status ≢ InputFault) × (status ≢ SinkFault))

-- Of a script no more is taken than the bytes that count and one.
abbrev pub LeavesScript : List (List ℕ) → Drawn → Type 0
LeavesScript words d = (file : List ℕ) → AsksFor words (debug file) → LeavesOfScript d

-- ---- the status of a run

-- The status of a program that didn't end by exit, or that wasn't run to its end, is one of the end of the words'
-- command.
abbrev pub EndsAsked : List (List ℕ) → Status → Type 0
EndsAsked words status = class_of status ≡ ended → (command : Command) × AsksFor words command × EndsBy command status

-- A run of the imprecise machine never loses a trap, whatever the input tells, unless the verdict is passed over.
abbrev pub LosesNone : List (List ℕ) → Status → Type 0
LosesNone words status = (options : RunOptions) (choices : Origin) (file : List ℕ) (lost : Lost)
    → run_words.AsksImprecise words options choices false file → status ≢ statuses.Lost lost
