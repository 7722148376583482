-- What a decision has still to be written, as an answer.
use Rattle.std.specs.Prelude.{◌≡◌, ⊤, ℕ, List, [], Option, Result, Ok, Err}
use Rattle.alpha_io.specs.declared.Failed.{Failed}
use Rattle.alpha_pal.specs.declared.fault.Fault.{Fault}
use Rattle.alpha_pal.specs.declared.fault.Fault.TheVariants as faults
use Rattle.alpha_cmd.specs.declared.decision.Decision.{Decision}
use Rattle.alpha_cmd.specs.declared.status.Status.{Status}
use Rattle.alpha_cmd.specs.declared.status.Status.TheVariants.{InputFault}
use Rattle.alpha_cmd.specs.declared.stop.Stop.{Stop}
use Rattle.alpha_cmd.specs.Status.{status_line}
use Rattle.alpha_cmd.specs.Stage.{stop_status, stop_line}
use Rattle.alpha_cmd.specs.Answer.{Answer}
use Rattle.alpha_cmd.specs.AnswerBy.{status_answer}
use Rattle.alpha_cmd.specs.Kept.{nothing}

-- with this input left
abbrev pub answer_in : Option (List ℕ) → Decision → Answer
answer_in left d =
    record { status = d.status; output = d.output; trace = []; line = d.line; left = left; kept = nothing }

-- a decision that says a status by the line of that status
abbrev pub SaysAlone : Status → Decision → Type 0
SaysAlone status d = (left : Option (List ℕ)) → answer_in left d ≡ status_answer left status (status_line status)

-- one that says why a stage stopped
abbrev pub SaysStop : Stop → Decision → Type 0
SaysStop stop d = (left : Option (List ℕ)) → answer_in left d ≡ status_answer left (stop_status stop) (stop_line stop)

-- what is decided of a run that a device's fault cut short: the line of the input's fault, and nothing where a sink
-- failed
abbrev pub IsCutShort : Fault → Result Decision Failed → Type 0
IsCutShort faults.Input (Ok d) =
    (left : Option (List ℕ)) → answer_in left d ≡ status_answer left InputFault (status_line InputFault)
IsCutShort faults.Input (Err failed) = ⊥
IsCutShort _ (Ok d) = ⊥
IsCutShort _ (Err failed) = ⊤
