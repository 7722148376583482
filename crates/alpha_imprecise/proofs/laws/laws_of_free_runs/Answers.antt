use Rattle.std.proofs.Common.{refl}
use Rattle.alpha_imprecise.specs.Run.{imprecise_start}
use Rattle.alpha_imprecise.proofs.WordDraws.{words_most}
use Rattle.alpha_imprecise.proofs.DrawnRuns.{chosen_run-over, RunsOver-chosen_run}
use Rattle.alpha_imprecise.proofs.laws.laws_of_free_runs.Goals as goal

pub returns-clause-told : goal.returns-clause-told
returns-clause-told c = chosen_run-over

pub returns-clause-made : goal.returns-clause-made
returns-clause-made c = RunsOver-chosen_run

pub returns-clause-words : goal.returns-clause-words
returns-clause-words c g s words steps at runs draws = words_most g steps (imprecise_start s) at 0 words refl runs draws
