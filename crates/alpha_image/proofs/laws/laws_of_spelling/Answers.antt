use Rattle.std.proofs.Common.{ap, ◌∙◌}
use Rattle.alpha_image.specs.ImageFault.{first_fault}
use Rattle.alpha_image.specs.PartsOf.{parts_of}
use Rattle.alpha_image.proofs.ReadSpelling.{IsBytes-All, image-no_fault}
use Rattle.alpha_image.proofs.Spelled.{first_fault-image_spelling, image_spelling-injective, parts_of-image_spelling}
use Rattle.alpha_image.proofs.laws.laws_of_spelling.Goals as goal

pub returns-clause-spelled : goal.returns-clause-spelled
returns-clause-spelled c = λ bytes all. (
  λ none. let both = image-no_fault bytes (IsBytes-All bytes all) none in (parts_of bytes, both.0, both.1),
  λ s. ap first_fault s.2 ∙ first_fault-image_spelling s.0 s.1,
)

pub returns-clause-one_image : goal.returns-clause-one_image
returns-clause-one_image c = image_spelling-injective

pub returns-clause-read_back : goal.returns-clause-read_back
returns-clause-read_back c = parts_of-image_spelling
