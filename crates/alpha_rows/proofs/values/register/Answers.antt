use Rattle.std.proofs.Common.{arith}
use Rattle.std.proofs.lemmas.Int.{to_z-of_z}
use Rattle.alpha_values.proofs.MachineWords.{register_of-cast_unsigned}
use Rattle.alpha_rows.proofs.values.register.Goals as goal

pub returns : goal.returns
returns c = grind (arith, to_z-of_z, register_of-cast_unsigned)
