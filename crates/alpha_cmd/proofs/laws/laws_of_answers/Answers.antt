use Rattle.alpha_cmd.proofs.AttemptedBy.{IsAnswer-single, IsAnswer-some}
use Rattle.alpha_cmd.proofs.laws.laws_of_answers.Goals as goal

pub returns : goal.returns
returns c = record { one_answer = IsAnswer-single; some_answer = IsAnswer-some }
