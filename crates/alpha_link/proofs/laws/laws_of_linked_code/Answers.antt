use Rattle.alpha_link.proofs.LinkedImages.{linked_image}
use Rattle.alpha_link.proofs.LinkedCode.{linked_accepted}
use Rattle.alpha_link.proofs.laws.laws_of_linked_code.Goals as goal

pub returns : goal.returns
returns c = record {
  accepted = λ modules entry image good e all. linked_accepted modules entry image good e all;
  image = λ modules entry program good e. linked_image modules entry program good e;
}
