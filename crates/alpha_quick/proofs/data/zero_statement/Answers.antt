use Rattle.std.proofs.Common.{◌≡◌, Some, sym}
use Rattle.alpha_operands.specs.declared.number.Number.TheVariants as numbers
use Rattle.alpha_operands.specs.declared.number.Sign.TheVariants as signs
use Rattle.alpha_operands.specs.declared.piece.Piece.TheVariants as pieces
use Rattle.alpha_operands.specs.Ranges.{number_of}
use Rattle.alpha_quick.proofs.Directives.{says_zero}
use Rattle.alpha_quick.proofs.data.zero_statement.Goals as goal

pub returns-then-is_end : goal.returns-then-is_end
returns-then-is_end c =
    let is : number_of pieces.Zeroed signs.Plus c.in_ok-n.n ≡ Some (numbers.Zeroed c.in-Some-Zeroed.n) =
    sym (rw c.in-Some-Zeroed.field-0-is at c.in-Some-Zeroed.ensures) in
    says_zero c.args.text.now c.args.words.now c.in_ok-n.rest.now c.in_ok-n.n c.in-Some-Zeroed.n c.requires
    c.in_ok-n.ensures is (c.is_end.ensures c.if-is_end.true)
