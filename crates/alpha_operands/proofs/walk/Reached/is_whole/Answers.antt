use Rattle.std.proofs.Common.{sym, arith}
use Rattle.alpha_operands.specs.Shapes.{patterns}
use Rattle.alpha_operands.proofs.Reached.{is_whole-own_end}
use Rattle.alpha_operands.proofs.walk.Reached.is_whole.Goals as goal

pub returns-then-self : goal.returns-then-self
returns-then-self c =
    sym (is_whole-own_end (patterns c.args.shape) c.args.self.now.pattern.now c.args.self.now.pieces c.requires.pattern
    (omega arith) (omega arith))
