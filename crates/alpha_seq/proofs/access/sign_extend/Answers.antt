use Rattle.std.proofs.Common.{arith}
use Rattle.std.proofs.lemmas.Int.{to_z-of_z}
use Rattle.alpha_values.proofs.MachineWords.{cast_signed-longword, register_of-cast_unsigned}
use Rattle.alpha_seq.proofs.access.sign_extend.Goals as goal

pub returns : goal.returns
returns c = grind (arith, to_z-of_z, cast_signed-longword, register_of-cast_unsigned)
