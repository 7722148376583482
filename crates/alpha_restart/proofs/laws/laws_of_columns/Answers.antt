use Rattle.alpha_restart.proofs.ColumnEffects.{step-unwritten_register, step_alike}
use Rattle.alpha_restart.proofs.laws.laws_of_columns.Goals as goal

pub returns : goal.returns
returns c = record { written = step-unwritten_register; read = step_alike }
