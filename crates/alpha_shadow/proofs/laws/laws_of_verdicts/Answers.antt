use Rattle.alpha_shadow.proofs.Decided.{IsBroken-decided, IsAccepted-or_IsLeastBroken}
use Rattle.alpha_shadow.proofs.laws.laws_of_verdicts.Goals as goal

pub returns : goal.returns
returns c = record { decided = IsBroken-decided; verdict = IsAccepted-or_IsLeastBroken }
