use Rattle.alpha_image.proofs.FieldRules.{tests_decide, FieldsFit-least, least-FieldsFit}
use Rattle.alpha_image.proofs.Spelled.{parts_fault-IsImage}
use Rattle.alpha_image.proofs.ReadSpelling.{IsImage-parts_fault}
use Rattle.alpha_image.proofs.laws.laws_of_fields.Goals as goal

pub returns-clause-tests : goal.returns-clause-tests
returns-clause-tests c = tests_decide

pub returns-clause-fields : goal.returns-clause-fields
returns-clause-fields c = λ n. (FieldsFit-least n, least-FieldsFit n)

pub returns-clause-parts : goal.returns-clause-parts
returns-clause-parts c =
    λ p suits filled words bytes. (IsImage-parts_fault p suits filled words bytes, parts_fault-IsImage p)
