use Rattle.std.proofs.Common.{◌∙◌, ap}
use Rattle.alpha_values.specs.Op.{zapped}
use Rattle.alpha_values.proofs.bytes.mask_low.Goals as goal

pub returns : goal.returns
returns c = c.clear.ensures ∙ ap (zapped c.args.a) c.byte_mask.ensures
