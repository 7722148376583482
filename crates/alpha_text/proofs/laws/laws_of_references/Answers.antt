use Rattle.alpha_text.proofs.References.{read-well}
use Rattle.alpha_text.proofs.laws.laws_of_references.Goals as goal

pub returns : goal.returns
returns c = read-well
