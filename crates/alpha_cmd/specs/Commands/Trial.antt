-- `trial N`: a program of N blocks, run on both machines.
use Rattle.std.specs.Prelude.{ℕ}
use Rattle.alpha_trial.specs.Report.{trial_text}
use Rattle.alpha_cmd.specs.Outcome.{Outcome, Gives}
use Rattle.alpha_cmd.specs.Answer.{Answer}
use Rattle.alpha_cmd.specs.AnswerBy.{World, done_with}
use Rattle.alpha_cmd.specs.Form.{Form, Kind, needs_nothing, reads}

abbrev pub steps : ℕ → World → Outcome Answer → Type 0
steps blocks w = Gives (done_with w.input (trial_text blocks))

abbrev pub kind : Kind
kind = reads

abbrev pub form : ℕ → Form
form blocks = record { steps = steps blocks; needs = needs_nothing; kind = kind }
