use Rattle.alpha_cmd.proofs.ToldRuns.{same_words, AnswerBy-IsOfAccepted, Alike-AlikeByAnswers}
use Rattle.alpha_cmd.proofs.laws.laws_of_told_runs.Goals as goal

pub returns : goal.returns
returns c = record {
  alike = Alike-AlikeByAnswers;
  words = same_words;
  answer = λ options file bytes w a files e check is.
      let h = AnswerBy-IsOfAccepted options file bytes w a files e check is in
      (h.image, h.good, h.accepted, h.there, h.is);
}
