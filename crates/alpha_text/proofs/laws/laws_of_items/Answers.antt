use Rattle.alpha_text.proofs.ItemLists.{list-whole, text-whole}
use Rattle.alpha_text.proofs.laws.laws_of_items.Goals as goal

pub returns-clause-list : goal.returns-clause-list
returns-clause-list c = list-whole

pub returns-clause-text : goal.returns-clause-text
returns-clause-text c = text-whole
