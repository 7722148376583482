use Rattle.alpha_cmd.proofs.RecordedRuns.{kept_with}
use Rattle.alpha_cmd.proofs.laws.laws_of_recorded_runs.Goals as goal

pub returns : goal.returns
returns c =
    λ options choices force file out bytes w a told is. kept_with options choices force file out bytes w told a is
