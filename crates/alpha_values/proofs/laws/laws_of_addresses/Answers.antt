use Rattle.alpha_values.specs.Address.{address_of, high_address_of}
use Rattle.alpha_values.proofs.MachineWords.{register_of-lt}
use Rattle.alpha_values.proofs.AddressLemmas.{access_address-lt, common-meets, meeting-touches, meeting-common}
use Rattle.alpha_values.proofs.laws.laws_of_addresses.Goals as goal

pub returns : goal.returns
unfolding address_of high_address_of
returns c = record {
  bound = λ base disp. register_of-lt _;
  high_bound = λ base disp. register_of-lt _;
  access_bound = access_address-lt;
  meets = common-meets;
  touches = meeting-touches;
  common = meeting-common;
}
