use Rattle.alpha_image.specs.Fields.{level_numbers}
use Rattle.alpha_image.proofs.FieldRules.{FieldsFit-tests}
use Rattle.alpha_image.proofs.fields.LevelFields.bad_field.Goals as goal

pub returns-clause-good : goal.returns-clause-good
returns-clause-good c =
    FieldsFit-tests (level_numbers c.args.self.now c.args.words c.args.segments.now) (cc) (cc) (cc) (cc) (cc) (cc) (cc)
    (cc) (cc) (cc)
