use Rattle.std.proofs.Common.{None, refl}
use Rattle.alpha_imprecise.specs.ChosenRun.{begun}
use Rattle.alpha_imprecise.proofs.DrawnRuns.{chosen_run-draws}
use Rattle.alpha_imprecise.proofs.StepBounds.{IsWithin-nothing_pending, IsWithin-pending, advance_chosen_run-Nearer}
use Rattle.alpha_imprecise.proofs.PendingTraps.{made_is}
use Rattle.alpha_imprecise.proofs.laws.laws_of_chosen_runs.Goals as goal

pub returns-clause-used : goal.returns-clause-used
returns-clause-used c g s input words n = made_is g (begun s input None 0 words) n refl refl

pub returns-clause-steps : goal.returns-clause-steps
returns-clause-steps c g s input words n = IsWithin-nothing_pending g (begun s input None 0 words) n refl

pub returns-clause-words : goal.returns-clause-words
returns-clause-words c = chosen_run-draws

pub returns-clause-pending : goal.returns-clause-pending
returns-clause-pending c = IsWithin-pending

pub returns-clause-nearer : goal.returns-clause-nearer
returns-clause-nearer c = advance_chosen_run-Nearer
