-- `run FILE`: what the run of an image's program shows, and the status and the line of its end.
use Rattle.std.specs.Prelude.{◌≡◌, ℕ, Bool, List, [], Option, Some, None}
use Rattle.alpha_image.specs.Parts.{Parts}
use Rattle.alpha_request.specs.declared.options.RunOptions.{RunOptions}
use Rattle.alpha_seq.specs.declared.end.End.{End}
use Rattle.alpha_seq.specs.State.{Event, Stepped}
use Rattle.alpha_seq.specs.Run.{Shown, shown, sequential}
use Rattle.alpha_cmd.specs.declared.status.Status.{Status}
use Rattle.alpha_cmd.specs.Outcome.{Outcome, Either, Never, Then}
use Rattle.alpha_cmd.specs.Image.{ImageOf}
use Rattle.alpha_cmd.specs.Answer.{Answer}
use Rattle.alpha_cmd.specs.AnswerBy.{World}
use Rattle.alpha_cmd.specs.RunAnswer.{RunByReads, run_status, program_by, answer_shown}
use Rattle.alpha_cmd.specs.Form.{Form, Kind, IsThere, needs_files_and_input, streams}

-- what it shows, of an input of which nothing is told
abbrev pub shown_by : Bool → List Event → Stepped → Shown
shown_by watch events at = shown watch (record { at = at; events = events; left = [] })

-- Over an input that is told, a run shows what the sequential run from the start does. Over another it shows what such
-- a run does.
abbrev pub MayShow : RunOptions → Option (List ℕ) → Parts → Shown → Type 0
MayShow options None image s = (r : RunByReads options image) × (s ≡ shown_by options.watch r.events r.at)
MayShow options (Some input) image s = s ≡ sequential (program_by options image) input options.steps options.watch

-- the run of an image, over this input
abbrev pub Runs : RunOptions → Option (List ℕ) → Parts → Outcome Answer → Type 0
Runs options input image = Either (λ a. (s : Shown) × MayShow options input image s × (a ≡ answer_shown input s)) Never

abbrev pub steps : RunOptions → List ℕ → World → Outcome Answer → Type 0
steps options file w = Then (ImageOf w.files file) (Runs options w.input)

-- the statuses of a run's end
abbrev pub IsEndStatus : Status → Type 0
IsEndStatus status = (end : Option End) × (status ≡ run_status end)

abbrev pub kind : Kind
kind = streams IsEndStatus

-- of an image that was read, and of the one of a named file
abbrev pub on : RunOptions → Parts → Form
on options image = record { steps = λ w. Runs options w.input image; needs = needs_files_and_input; kind = kind }

abbrev pub form : RunOptions → List ℕ → Form
form options file = record { steps = steps options file; needs = needs_files_and_input; kind = kind }

abbrev pub there : List ℕ → World → Type 0
there file = IsThere file
