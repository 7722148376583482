use Rattle.alpha_restart.proofs.ChoiceRows.{row_chosen}
use Rattle.alpha_restart.proofs.Walks.{choice_row}
use Rattle.alpha_restart.proofs.laws.laws_of_imprecise_steps.Goals as goal

pub returns : goal.returns
returns c = record { row = row_chosen; choice = choice_row }
