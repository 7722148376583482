use Rattle.alpha_request.specs.Origin.{seed}
use Rattle.alpha_cmd.proofs.AcceptedFiles.{spelling-ImageOf, accepted-IsChecked, seed-HasWords, listed-HasWords}
use Rattle.alpha_cmd.proofs.ImpreciseAnswers.{AnswerBy-imprecise_undrawn}
use Rattle.alpha_cmd.proofs.laws.laws_of_checkable_files.Goals as goal

pub returns : goal.returns
returns c = record {
  spelled = spelling-ImageOf;
  checked = accepted-IsChecked;
  seeds = seed-HasWords;
  listed = listed-HasWords;
  alike = λ image options n force file w a b good safe files input there one other.
      AnswerBy-imprecise_undrawn options (seed n) force file w a b files input (seed-HasWords w.files n)
      (accepted-IsChecked image w file good safe there) one other;
}
