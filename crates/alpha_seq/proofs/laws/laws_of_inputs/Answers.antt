use Rattle.alpha_seq.proofs.RunSequence.{after-fed, fed-after}
use Rattle.alpha_seq.proofs.RunsWithoutInput.{unread_after}
use Rattle.alpha_seq.proofs.laws.laws_of_inputs.Goals as goal

pub returns-clause-told : goal.returns-clause-told
returns-clause-told c g s input n = let r = after-fed g s input n in (r.runs, r.fed)

pub returns-clause-fed : goal.returns-clause-fed
returns-clause-fed c = fed-after

pub returns-clause-unread : goal.returns-clause-unread
returns-clause-unread c = unread_after
