use Rattle.alpha_trial.proofs.DecodedProgram.{program_decoded}
use Rattle.alpha_trial.proofs.WordCounts.{program_size, program_count}
use Rattle.alpha_trial.proofs.TrialShadows.{program_accepted}
use Rattle.alpha_trial.proofs.GoodImage.{trial_image-IsImage}
use Rattle.alpha_trial.proofs.ExitBlock.{sequential_run-Exits}
use Rattle.alpha_trial.proofs.TrialRunsAlike.{run_alike, text_lines}
use Rattle.alpha_trial.proofs.laws.laws_of_trials.Goals as goal

pub returns : goal.returns
returns c = record {
  words = program_decoded;
  size = program_size;
  triggers = program_count;
  accepted = program_accepted;
  good = trial_image-IsImage;
  exits = sequential_run-Exits;
  alike = run_alike;
  lines = text_lines;
}
