use Rattle.std.proofs.Common.{◌/◌, ◌∙◌, ap}
use Rattle.alpha_values.specs.Op.{zapped}
use Rattle.alpha_values.proofs.bytes.mask_high.Goals as goal

pub returns : goal.returns
returns c = c.clear.ensures ∙ ap (λ m. zapped c.args.a (m / 256)) c.byte_mask.ensures
