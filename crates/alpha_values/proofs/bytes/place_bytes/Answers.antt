use Rattle.std.proofs.Common.{◌^◌, ◌%◌, ◌*◌, ◌∙◌, ap}
use Rattle.alpha_values.proofs.ByteLemmas.{inserted-shifted_bytes}
use Rattle.alpha_values.proofs.bytes.place_bytes.Goals as goal

pub returns : goal.returns
returns c =
    ap (λ m. m * 2 ^ (8 * c.place.result) % 2 ^ 128) (c.from.ensures ∙ c.low_bytes.ensures)
    ∙ (ap (λ n. c.args.a % 2 ^ (8 * c.args.size) * 2 ^ (8 * n) % 2 ^ 128) c.place.ensures
    ∙ inserted-shifted_bytes c.args.size c.args.a c.args.b c.requires.most)
