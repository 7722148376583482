-- Programs that read nothing, and the one answer of their runs.
use Rattle.std.specs.Prelude.{ℕ, Bool, List, [], Option, None, IsSome}
use Rattle.alpha_image.specs.Parts.{Parts}
use Rattle.alpha_request.specs.Origin.{Origin}
use Rattle.alpha_request.specs.declared.options.RunOptions.{RunOptions}
use Rattle.alpha_request.specs.Commands.Run as run_words
use Rattle.alpha_seq.specs.Start.{start}
use Rattle.alpha_seq.specs.Run.{after, sequential, ReadNothing}
use Rattle.alpha_cmd.specs.declared.status.Status.{Status}
use Rattle.alpha_cmd.specs.AlikeByAnswers.{HasWords, IsChecked}
use Rattle.alpha_cmd.specs.Answer.{Answer}
use Rattle.alpha_cmd.specs.Call.{Call, NoDeviceFault}
use Rattle.alpha_cmd.specs.Drawn.{but_drawn}
use Rattle.alpha_cmd.specs.Answered.{Answered}
use Rattle.alpha_cmd.specs.AnswerBy.{told}
use Rattle.alpha_cmd.specs.Image.{ImageOf}
use Rattle.alpha_cmd.specs.Outcome.{continues}
use Rattle.alpha_cmd.specs.RunAnswer.{program_by, answer_shown}

-- None of the steps that are asked for reads: none is a system call that asks for a good read. The run over no input
-- tells that of every run, since up to the first such call they are the same.
abbrev pub ReadsNothing : RunOptions → Parts → Type 0
ReadsNothing options image =
    ReadNothing (after (program_by options image) (start (program_by options image)) [] options.steps).events

-- The status, the output and the notes of the sequential run over no input, and the input as it is.
abbrev pub answer_unread : RunOptions → Parts → Option (List ℕ) → Answer
answer_unread options image input =
    record (answer_shown None (sequential (program_by options image) [] options.steps options.watch)) { left = input }

-- A run of a told file whose program reads nothing gives that answer, if no device fails, whatever the source tells or
-- doesn't tell.
abbrev pub Unread : List (List ℕ) → Status → Call → Type 0
Unread words status c = (options : RunOptions) (file : List ℕ) (image : Parts) → run_words.AsksToRun words options file
    → IsSome c.shelf.old → ImageOf c.shelf.old file (continues image) → ReadsNothing options image
    → NoDeviceFault c → Answered (answer_unread options image c.input.old.left) status c

-- So does a run of the imprecise machine of such a file that a check accepts, but for the number of words that it
-- draws.
abbrev pub UnreadAlike : List (List ℕ) → Status → Call → Type 0
UnreadAlike words status c = (options : RunOptions) (choices : Origin) (force : Bool) (file : List ℕ) (image : Parts)
    → run_words.AsksImprecise words options choices force file
    → IsSome c.shelf.old → ImageOf c.shelf.old file (continues image) → ReadsNothing options image
    → HasWords c.shelf.old choices → IsChecked file (told c)
    → NoDeviceFault c → Answered (answer_unread options image c.input.old.left) (but_drawn status) c
