use Rattle.std.proofs.Common.{arith}
use Rattle.std.proofs.lemmas.Int.{to_z-of_z}
use Rattle.alpha_values.specs.Address.{address_of}
use Rattle.alpha_values.proofs.MachineWords.{register_of-sum}
use Rattle.alpha_values.proofs.displaced.address.Goals as goal

pub returns : goal.returns
unfolding address_of
returns c = grind (arith, to_z-of_z, register_of-sum)
