use Rattle.std.proofs.Common.{arith}
use Rattle.std.proofs.lemmas.Int.{to_z-of_z}
use Rattle.alpha_values.proofs.MachineWords.{cast_signed-quadword}
use Rattle.alpha_values.proofs.number.quadword.Goals as goal

pub returns : goal.returns
returns c = grind (arith, to_z-of_z, cast_signed-quadword)
