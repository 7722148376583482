use Rattle.alpha_restart.proofs.NeededConditions.{condition-needed, stops_apart}
use Rattle.alpha_restart.proofs.laws.limits_of_restarts.Goals as goal

pub returns : goal.returns
returns c = record { needed = condition-needed; apart = stops_apart }
