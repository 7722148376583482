use Rattle.alpha_restart.proofs.Agreement.{IsAccepted-IsRestartable}
use Rattle.alpha_cmd.proofs.ImpreciseAnswers.{AnswerBy-imprecise_as_run, AnswerBy-imprecise_undrawn}
use Rattle.alpha_cmd.proofs.laws.laws_of_checked_runs.Goals as goal

pub returns : goal.returns
returns c = record {
  accepted = IsAccepted-IsRestartable;
  answers = AnswerBy-imprecise_as_run;
  alike = AnswerBy-imprecise_undrawn;
}
