use Rattle.std.proofs.Common.{◌^◌, ◌/◌, ◌%◌, ◌*◌, ◌∙◌, ap}
use Rattle.alpha_values.proofs.bytes.extract_low.Goals as goal

pub returns : goal.returns
returns c = c.low_bytes.ensures ∙ ap (λ n. c.args.a / 2 ^ (8 * n) % 2 ^ (8 * c.args.size)) c.place.ensures
