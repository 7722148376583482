use Rattle.std.proofs.Common.{◌/◌, ap}
use Rattle.alpha_values.proofs.bytes.insert_high.Goals as goal

pub returns : goal.returns
returns c = ap (λ m. m / 18446744073709551616) c.place_bytes.ensures
