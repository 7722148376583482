use Rattle.alpha_fix.proofs.BarredCode.{barred-IsAccepted, cut-needed, AreCuts-single}
use Rattle.alpha_fix.proofs.CutExistence.{HasCutOutcome-some, IsLeastAlone-unique}
use Rattle.alpha_fix.proofs.laws.laws_of_cuts.Goals as goal

pub returns-clause-accepted : goal.returns-clause-accepted
returns-clause-accepted c = barred-IsAccepted

pub returns-clause-needed : goal.returns-clause-needed
returns-clause-needed c = cut-needed

pub returns-clause-one : goal.returns-clause-one
returns-clause-one c = AreCuts-single

pub returns-clause-some : goal.returns-clause-some
returns-clause-some c = HasCutOutcome-some

pub returns-clause-alone : goal.returns-clause-alone
returns-clause-alone c = IsLeastAlone-unique
