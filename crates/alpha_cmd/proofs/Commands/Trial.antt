-- The laws of `trial`.
use Rattle.std.proofs.Common.{ℕ, ap, inl}
use Rattle.alpha_trial.specs.Report.{trial_text}
use Rattle.alpha_cmd.specs.Answer.{Answer}
use Rattle.alpha_cmd.specs.AnswerBy.{World, done_with}
use Rattle.alpha_cmd.specs.Commands.Trial.{form}
use Rattle.alpha_cmd.proofs.Lawful.{Gives-lawful}
use Rattle.alpha_cmd.proofs.FormLaws.{IsLawfulForm, is_fault}

pub trial_form-lawful : (blocks : ℕ) (w : World) → IsLawfulForm (form blocks) (λ w. Unit {0}) w
trial_form-lawful blocks w = record {
  stages = Gives-lawful (done_with w.input (trial_text blocks));
  ends = λ a h. inl (ap (λ (x : Answer). is_fault x.status) h);
  status = λ a h. ap (λ (x : Answer). x.status) h;
}
