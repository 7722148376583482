use Rattle.std.proofs.Common.{arith}
use Rattle.std.proofs.lemmas.Int.{to_z-of_z}
use Rattle.alpha_values.specs.Address.{high_address_of}
use Rattle.alpha_values.proofs.MachineWords.{register_of-sum}
use Rattle.alpha_values.proofs.displaced.high_address.Goals as goal

pub returns : goal.returns
unfolding high_address_of
returns c = grind (arith, to_z-of_z, register_of-sum)
