use Rattle.alpha_table.proofs.NameSearches.{name_of-injective}
use Rattle.alpha_table.proofs.laws.laws_of_names.Goals as goal

pub returns : goal.returns
returns c = name_of-injective
