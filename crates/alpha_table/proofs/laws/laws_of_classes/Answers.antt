use Rattle.alpha_table.proofs.Classes.{class_in-decoded, class_at-decoded}
use Rattle.alpha_table.proofs.Levels.{level_in-class_of, level_in-decoded}
use Rattle.alpha_table.proofs.laws.laws_of_classes.Goals as goal

pub returns : goal.returns
returns c = record {
  word = class_in-decoded;
  place = class_at-decoded;
  level = level_in-class_of;
  at_level = level_in-decoded;
}
