-- What a call has as its answer, by its words, and what it tries to write.
use Rattle.std.specs.Prelude.{◌≡◌, ◌⊎◌, ℕ, List, Option}
use Rattle.alpha_io.specs.ShelfChange.{ShelfChange}
use Rattle.alpha_io.specs.SinkChange.{SinkChange}
use Rattle.alpha_request.specs.Command.{Command}
use Rattle.alpha_cmd.specs.declared.status.Status.{Status}
use Rattle.alpha_cmd.specs.declared.status.Status.TheVariants.{BadWords, NoMemory}
use Rattle.alpha_cmd.specs.Status.{status_line}
use Rattle.alpha_cmd.specs.Asks.{AsksFor, AsksNothing}
use Rattle.alpha_cmd.specs.Answer.{Answer, IsAnswered}
use Rattle.alpha_cmd.specs.AnswerBy.{World, status_answer}
use Rattle.alpha_cmd.specs.Attempts.{FaultedAttemptBy}
use Rattle.alpha_cmd.specs.Commands.{form_of, AnswerOf, IsTold}

-- an answer to words
abbrev pub IsAnswer : List (List ℕ) → World → Answer → Type 0
IsAnswer words w a =
    (AsksNothing words × (a ≡ status_answer w.input BadWords (status_line BadWords)))
    ⊎ ((command : Command) × AsksFor words command × AnswerOf command w a)

-- one of the words' answers was given, or memory ran out
abbrev pub IsGiven : List (List ℕ) → World → Status → Option (List ℕ) → ShelfChange → SinkChange → SinkChange → Type 0
IsGiven words w status left shelf out notes =
    ((a : Answer) × IsAnswer words w a × IsAnswered a status left shelf out notes) ⊎ (status ≡ NoMemory)

-- what the words' command reads is told
abbrev pub AreTold : List (List ℕ) → World → Type 0
AreTold words w = (command : Command) → AsksFor words command → IsTold command w

-- What a call tries to write. Memory may run out while the words are read, whatever they are.
abbrev pub AttemptedBy : Type 0 → Type 0 → List (List ℕ) → World → Answer → Type 0
AttemptedBy shelf input words w t =
    IsAnswer words w t
    ⊎ (((command : Command) × AsksFor words command × FaultedAttemptBy shelf input (form_of command) w t)
    ⊎ (t ≡ status_answer w.input NoMemory (status_line NoMemory)))
