use Rattle.alpha_replay.proofs.ItemEffects.{listed-RunsOver, listed_units, replayed-IsRun, replayed-IsSequential}
use Rattle.alpha_replay.proofs.laws.laws_of_replays.Goals as goal

pub returns-clause-listed : goal.returns-clause-listed
returns-clause-listed c = listed-RunsOver

pub returns-clause-units : goal.returns-clause-units
returns-clause-units c = listed_units

pub returns-clause-replayed : goal.returns-clause-replayed
returns-clause-replayed c = replayed-IsRun

pub returns-clause-restarted : goal.returns-clause-restarted
returns-clause-restarted c = replayed-IsSequential
