use Rattle.std.proofs.Common.{◌≡◌, Some, to_z, of_z, sym, ap, rules}
use Rattle.std.specs.Int.{w16}
use Rattle.std.proofs.lemmas.Int.{to_z-of_z}
use Rattle.alpha_table.specs.declared.names.Mnemonic.TheVariants as mnemonics
use Rattle.alpha_operands.specs.declared.number.Number.TheVariants as numbers
use Rattle.alpha_operands.specs.declared.piece.Piece.TheVariants as pieces
use Rattle.alpha_operands.specs.Ranges.{number_of}
use Rattle.alpha_text.specs.Statements.{code}
use Rattle.alpha_quick.proofs.LexemeMeanings.{Says-same, says_number}
use Rattle.alpha_quick.proofs.forms.access_by_displacement.Goals as goal

pub returns : goal.returns
returns c =
    let disp = c.in-Some-Displacement.disp in
    let is : number_of pieces.Displacement c.in_ok-sign.sign c.in_ok-sign.n
    ≡ Some (numbers.Displacement c.in-Some-Displacement.disp) =
    sym (rw c.in-Some-Displacement.field-0-is at c.in-Some-Displacement.ensures) in
    let plain : to_z w16 (of_z w16 c.in-Some-Displacement.disp) ≡ c.in-Some-Displacement.disp =
    to_z-of_z w16 c.in-Some-Displacement.disp (search rules) in
    λ line first.
    Says-same (mnemonics.Mem c.args.op) line _ (code c.memory.result) (ap code (sym (rw plain at c.memory.ensures)))
    (says_number c.args.op c.args.ra c.in_ok-rb.rb c.in_ok-sign.n c.in_ok-sign.sign disp line c.args.words.now
    c.in_ok-sign.rest.now first c.in_ok-sign.ensures is c.in_ok-rb.ensures)
