use Rattle.alpha_operands.specs.Shapes.{patterns}
use Rattle.alpha_operands.specs.Reached.{front_of}
use Rattle.std.proofs.Common.{sym, ◌∙◌, ap, Some}
use Rattle.alpha_operands.proofs.PatternsApart.{shapes-distinct}
use Rattle.alpha_operands.proofs.Reached.{own_piece}
use Rattle.alpha_operands.proofs.walk.Reached.extend.Goals as goal

pub returns-in-Some-clause-value : goal.returns-in-Some-clause-value
returns-in-Some-clause-value c =
    ap Some c.with_piece.ensures.piece ∙ sym (own_piece (patterns c.args.shape)
    (shapes-distinct c.args.shape) c.args.self.now.pattern.now (front_of c.args.self.now) c.args.kind c.in-Some.piece
    c.requires.pattern c.in-Some.ensures.behind c.in-Some.ensures.kind)
