use Rattle.alpha_mem.proofs.LawLemmas.{IsFree-push}
use Rattle.alpha_mem.proofs.laws.laws_of_adding.Goals as goal

pub returns : goal.returns
returns c = IsFree-push
