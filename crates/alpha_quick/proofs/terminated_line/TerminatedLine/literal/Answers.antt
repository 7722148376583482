use Rattle.std.proofs.Common.{◌≡◌, ◌∷◌, Some, sym, subst}
use Rattle.alpha_operands.specs.declared.number.Number.TheVariants as numbers
use Rattle.alpha_operands.specs.declared.number.Sign.TheVariants as signs
use Rattle.alpha_operands.specs.declared.piece.Piece.TheVariants as pieces
use Rattle.alpha_operands.specs.Ranges.{number_of}
use Rattle.alpha_quick.specs.TerminatedLine.{rest_from}
use Rattle.alpha_quick.proofs.TerminatedLines.{HasComma-comma}
use Rattle.alpha_quick.proofs.terminated_line.TerminatedLine.literal.Goals as goal

pub returns-clause-line : goal.returns-clause-line
returns-clause-line c =
    let is : number_of pieces.Literal signs.Plus c.from.result ≡ Some (numbers.Literal c.in-Some-Literal.v) =
    sym (rw c.in-Some-Literal.field-0-is at c.in-Some-Literal.ensures) in
    let rest = rest_from c.args.self.now c.in_ok-n.j in (
      c.in_ok-n.n,
      44 ∷ rest,
      subst (λ n. number_of pieces.Literal signs.Plus n ≡ Some (numbers.Literal c.in-Some-Literal.v)) c.from.ensures is,
      c.in_ok-n.ensures.line,
      HasComma-comma rest (rest_from c.args.self.now c.after_comma.result) c.after_comma.ensures.line,
    )
