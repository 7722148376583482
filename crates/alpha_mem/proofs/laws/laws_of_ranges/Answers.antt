use Rattle.alpha_mem.proofs.LawLemmas.{within-readable, within-part, within-below}
use Rattle.alpha_mem.proofs.laws.laws_of_ranges.Goals as goal

pub returns-clause-readable : goal.returns-clause-readable
returns-clause-readable c = within-readable

pub returns-clause-part : goal.returns-clause-part
returns-clause-part c = within-part

pub returns-clause-below : goal.returns-clause-below
returns-clause-below c = within-below
