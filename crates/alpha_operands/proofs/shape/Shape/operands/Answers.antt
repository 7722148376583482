use Rattle.std.proofs.Common.{[]}
use Rattle.alpha_token.specs.Tokens.{tokens}
use Rattle.alpha_operands.specs.declared.number.Sign.TheVariants as signs
use Rattle.alpha_operands.specs.Shapes.{patterns}
use Rattle.alpha_operands.specs.Operands.{nothing}
use Rattle.alpha_operands.proofs.OperandRanges.{follow-within}
use Rattle.alpha_operands.proofs.shape.Shape.operands.Goals as goal

pub returns-clause-good : goal.returns-clause-good
returns-clause-good c =
    follow-within (patterns c.args.self) [] signs.Plus (tokens c.args.line.now) nothing _ tt c.in_ok-follow.ensures.ok
