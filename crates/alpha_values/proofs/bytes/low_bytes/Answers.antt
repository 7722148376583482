use Rattle.alpha_values.proofs.ByteLemmas.{bit_and-low_mask}
use Rattle.alpha_values.proofs.bytes.low_bytes.Goals as goal

pub returns : goal.returns
returns c = bit_and-low_mask c.args.a c.args.size c.requires.most
