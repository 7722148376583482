use Rattle.alpha_text.specs.Heads.{every_pseudo_op}
use Rattle.alpha_text.proofs.head.PseudoOp.of.Goals as goal

pub returns : goal.returns
unfolding every_pseudo_op
returns c = c.find_pseudo_op.ensures
