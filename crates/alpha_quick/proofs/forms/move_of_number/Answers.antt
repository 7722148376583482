use Rattle.std.proofs.Common.{◌≡◌, Some, to_z, of_z, sym, ◌∙◌, ap, subst, rules}
use Rattle.std.specs.Int.{w16}
use Rattle.std.proofs.lemmas.Int.{to_z-of_z}
use Rattle.alpha_text.specs.Statements.{move_number}
use Rattle.alpha_operands.specs.declared.number.Number.TheVariants as numbers
use Rattle.alpha_operands.specs.declared.piece.Piece.TheVariants as pieces
use Rattle.alpha_operands.specs.Ranges.{number_of}
use Rattle.alpha_text.specs.declared.head.PseudoOp.TheVariants as owns
use Rattle.alpha_quick.specs.Parts.{StandsFor}
use Rattle.alpha_quick.proofs.LexemeMeanings.{stands_number}
use Rattle.alpha_quick.proofs.forms.move_of_number.Goals as goal

pub returns : goal.returns
returns c =
    let is : number_of pieces.Immediate c.in_ok-sign.sign c.in_ok-sign.n
    ≡ Some (numbers.Immediate c.in-Some-Immediate.n) =
    sym (rw c.in-Some-Immediate.field-0-is at c.in-Some-Immediate.ensures) in
    let plain : to_z w16 (of_z w16 c.in-Some-Immediate.n) ≡ c.in-Some-Immediate.n =
    to_z-of_z w16 c.in-Some-Immediate.n (search rules) in
    subst (StandsFor owns.Mov c.args.words.now)
    (sym (c.move_number.ensures ∙ ap (λ x. move_number x c.in_ok-rc.rc) plain))
    (stands_number c.in_ok-sign.n c.in_ok-rc.rc c.in_ok-sign.sign c.in-Some-Immediate.n c.args.words.now
    c.in_ok-sign.rest.now c.in_ok-rest.rest.now c.in_ok-sign.ensures is c.in_ok-rest.ensures c.in_ok-rc.ensures)
