use Rattle.std.proofs.Common.{◌^◌, ◌-◌, ◌%◌, ◌*◌, ◌∙◌, ap}
use Rattle.alpha_values.proofs.ByteLemmas.{byte_mask-shifted_ones}
use Rattle.alpha_values.proofs.bytes.byte_mask.Goals as goal

pub returns : goal.returns
returns c =
    ap (λ n. (1 * 2 ^ c.args.size % 2 ^ 64 - 1) * 2 ^ n % 2 ^ 64) c.place.ensures
    ∙ byte_mask-shifted_ones c.args.size c.args.b c.requires.most
