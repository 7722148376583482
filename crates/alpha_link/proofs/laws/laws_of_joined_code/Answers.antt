use Rattle.alpha_link.proofs.JoinedCode.{accepted_concat, parts_accepted-alike}
use Rattle.alpha_link.proofs.laws.laws_of_joined_code.Goals as goal

pub returns-clause-joined : goal.returns-clause-joined
returns-clause-joined c parts all = accepted_concat parts all

pub returns-clause-alike : goal.returns-clause-alike
returns-clause-alike c a b alike accepted = parts_accepted-alike a b alike accepted
