use Rattle.alpha_image.proofs.CodePlaces.{place_of-code, place_of-entry}
use Rattle.alpha_image.proofs.laws.laws_of_places.Goals as goal

pub returns-clause-places : goal.returns-clause-places
returns-clause-places c = place_of-code

pub returns-clause-entry : goal.returns-clause-entry
returns-clause-entry c = place_of-entry
