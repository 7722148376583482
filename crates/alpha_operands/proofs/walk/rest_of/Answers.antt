use Rattle.std.proofs.Common.{rules, ◌≡◌}
use Rattle.alpha_operands.specs.declared.piece.Piece.{Piece}
use Rattle.alpha_operands.specs.contracts.piece.PiecePartialEq.TheImpl.{eq-value}
use Rattle.alpha_operands.specs.Pieces.{same_piece}
use Rattle.alpha_operands.proofs.PatternPrefixes.{pointwise-stripped}
use Rattle.alpha_operands.proofs.walk.rest_of.Goals as goal

same : (a b : Piece) → eq-value.it a b ≡ same_piece a b
same a b = search rules

pub returns : goal.returns
returns c =
    pointwise-stripped eq-value.it same c.args.front.now c.args.pattern.now c.strip_prefix.result
    c.strip_prefix.ensures.cases
