use Rattle.std.proofs.Common.{◌∙◌, ap, bit_and}
use Rattle.std.proofs.lemmas.Nat.{and_mask}
use Rattle.alpha_values.specs.Op.{inserted}
use Rattle.alpha_values.proofs.bytes.insert_low.Goals as goal

pub returns : goal.returns
returns c =
    ap (bit_and c.place_bytes.result) c.from.ensures
    ∙ (ap (λ m. bit_and m 18446744073709551615) c.place_bytes.ensures
    ∙ and_mask (inserted c.args.size c.args.a c.args.b) 64)
