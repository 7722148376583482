use Rattle.alpha_restart.proofs.Walks.{walks_agree}
use Rattle.alpha_imprecise.proofs.ShownRuns.{choices_alike, runs_alike}
use Rattle.alpha_restart.proofs.laws.laws_of_restarted_runs.Goals as goal

pub returns : goal.returns
returns c = record { walks = walks_agree; choices = choices_alike; words = runs_alike }
