-- What it means that a run of the imprecise machine has the answer of the sequential run, by the answers of `check` and
-- `run`.
use Rattle.std.specs.Prelude.{◌≡◌, ℕ, Bool, List, IsSome}
use Rattle.alpha_io.specs.Files.{Files}
use Rattle.alpha_request.specs.Origin.{Origin}
use Rattle.alpha_request.specs.declared.options.RunOptions.{RunOptions}
use Rattle.alpha_request.specs.Commands.Run as run_words
use Rattle.alpha_cmd.specs.declared.status.Status.{Status}
use Rattle.alpha_cmd.specs.declared.status.Status.TheVariants.{Done}
use Rattle.alpha_cmd.specs.Outcome.{continues}
use Rattle.alpha_cmd.specs.Choosing.{ChoicesOf}
use Rattle.alpha_cmd.specs.Answer.{Answer}
use Rattle.alpha_cmd.specs.AnswerBy.{World, AnswerBy, told}
use Rattle.alpha_cmd.specs.Call.{Call, NoDeviceFault}
use Rattle.alpha_cmd.specs.Drawn.{but_drawn}
use Rattle.alpha_cmd.specs.Answered.{Answered}
use Rattle.alpha_cmd.specs.OfImage.Check as checks
use Rattle.alpha_cmd.specs.Commands.Run as runs

-- an answer but for the number of words that its status carries
abbrev pub undrawn : Answer → Answer
undrawn a = record a { status = but_drawn a.status }

-- `check FILE` is done: the file spells an accepted image
pub record IsChecked (file : List ℕ) (w : World) : Type 0 where
  pub answer : Answer
  pub is : AnswerBy (checks.steps file) w answer
  pub done : answer.status ≡ Done 0

-- the choices have words: a file that they name is there, and within its limit
abbrev pub HasWords : Files → Origin → Type 0
HasWords files choices = (ahead : ℕ → ℕ) × ChoicesOf files choices (continues ahead)

-- A run of the imprecise machine of a file that a check accepts gives the answer of the sequential run with the same
-- options, if shelf and input are told and no device fails, whatever words it draws and whether the verdict is passed
-- over. Only their number, which the status carries where the program has exited, is its own.
abbrev pub AlikeByAnswers : List (List ℕ) → Status → Call → Type 0
AlikeByAnswers words status c = (options : RunOptions) (choices : Origin) (force : Bool) (file : List ℕ) (a : Answer)
    → run_words.AsksImprecise words options choices force file
    → IsSome c.shelf.old → IsSome c.input.old.left → HasWords c.shelf.old choices → IsChecked file (told c)
    → AnswerBy (runs.steps options file) (told c) a → NoDeviceFault c → Answered a (but_drawn status) c
