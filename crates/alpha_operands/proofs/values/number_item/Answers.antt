use Rattle.std.proofs.Common.{◌≡◌, Some, sym, ap, ◌∙◌}
use Rattle.std.specs.Option.{option_and_then}
use Rattle.alpha_token.specs.Numeral.{number_value}
use Rattle.alpha_token.specs.Tokens.{lexeme}
use Rattle.alpha_operands.specs.declared.piece.Piece.{Piece}
use Rattle.alpha_operands.specs.declared.number.Number.TheVariants as numbers
use Rattle.alpha_operands.specs.Ranges.{number_of}
use Rattle.alpha_operands.proofs.FirstValues.{number_in, first-number}
use Rattle.alpha_operands.proofs.values.number_item.Goals as goal

pub returns : goal.returns
returns c = λ list has.
    let sign = c.args.sign in
    let n = number_value c.args.token.now.text.now in
    let read : number_of c.in_ok-piece.piece sign n ≡ Some (numbers.Value c.in-Some-Value.n) =
    sym (rw c.in-Some-Value.field-0-is at c.in-Some-Value.ensures) in
    let is : number_in c.args.shape sign n ≡ Some (numbers.Value c.in-Some-Value.n) =
    ap (option_and_then (λ (p : Piece). number_of p sign n)) (sym c.in_ok-piece.ensures) ∙ read in
    first-number c.args.shape sign
    (lexeme c.args.token.now) c.in-Some-Value.n list c.in_ok-rest.rest.now has is c.in_ok-rest.ensures
