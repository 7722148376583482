use Rattle.alpha_fix.proofs.FixedSources.{IsFixedSource-accepted, IsFixedSource-needed, IsFixedSource-unchanged}
use Rattle.alpha_fix.proofs.FixedSources.{IsFixedSource-unique}
use Rattle.alpha_fix.proofs.laws.laws_of_fixed_sources.Goals as goal

pub returns-clause-accepted : goal.returns-clause-accepted
returns-clause-accepted c = IsFixedSource-accepted

pub returns-clause-needed : goal.returns-clause-needed
returns-clause-needed c = IsFixedSource-needed

pub returns-clause-unchanged : goal.returns-clause-unchanged
returns-clause-unchanged c = IsFixedSource-unchanged

pub returns-clause-one : goal.returns-clause-one
returns-clause-one c = IsFixedSource-unique
