-- The status and the last line of a run of the imprecise machine, and when it is one of the sequential machine.
use Rattle.std.proofs.Common.{◌≡◌, ℕ, Bool, false, Option, None, Some, refl}
use Rattle.alpha_seq.specs.declared.end.End.{End}
use Rattle.alpha_seq.specs.declared.end.End.TheVariants as ends
use Rattle.alpha_seq.specs.State.{Went}
use Rattle.alpha_imprecise.specs.StepResult.{ImpreciseEvent, Precisely}
use Rattle.alpha_imprecise.specs.ChosenRun.{end_of_imprecise_event, lost_trap}
use Rattle.alpha_imprecise.specs.Restart.{IsRestartable}
use Rattle.alpha_restart.proofs.Agreement.{IsAccepted-IsRestartable}
use Rattle.alpha_run.specs.ImpreciseRan.{ended_as}
use Rattle.alpha_cmd.specs.Drawn.{but_drawn}
use Rattle.alpha_cmd.specs.RunAnswer.{run_status, run_line}
use Rattle.alpha_cmd.specs.Commands.Imprecise.{Plan, MayRun, imprecise_status, imprecise_line, answer_status}
use Rattle.alpha_cmd.specs.Commands.Imprecise.{answer_line}

pub answer_status-ended_as : (h : ImpreciseEvent) (n : ℕ)
    → answer_status (ended_as h) n ≡ imprecise_status (end_of_imprecise_event h) (lost_trap h) n
answer_status-ended_as (Precisely Went) n = refl
answer_status-ended_as (Precisely event) n = refl
answer_status-ended_as moment n = refl

pub answer_line-ended_as : (h : ImpreciseEvent)
    → answer_line (ended_as h) ≡ imprecise_line (end_of_imprecise_event h) (lost_trap h)
answer_line-ended_as (Precisely Went) = refl
answer_line-ended_as (Precisely event) = refl
answer_line-ended_as moment = refl

-- where no trap was lost they are those of the sequential run, but for the number of words
pub undrawn_status : (end : Option End) (n : ℕ) → but_drawn (imprecise_status end None n) ≡ run_status end
undrawn_status None n = refl
undrawn_status (Some (ends.Exit v)) n = refl
undrawn_status (Some end) n = refl

pub imprecise_line-run_line : (end : Option End) → imprecise_line end None ≡ run_line end
imprecise_line-run_line None = refl
imprecise_line-run_line (Some end) = refl

-- whatever words are drawn, its runs are those of the sequential machine
pub may_alone : (force : Bool) (plan : Plan) → MayRun force plan → force ≡ false → IsRestartable plan.image
may_alone force plan (fine, good) judges = IsAccepted-IsRestartable plan.image fine (good judges)
