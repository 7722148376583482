use Rattle.std.proofs.Common.{◌≡◌, ◌∷◌, Some, to_z, of_z, sym, ap, subst, rules}
use Rattle.std.specs.Int.{w16}
use Rattle.std.proofs.lemmas.Int.{to_z-of_z}
use Rattle.alpha_table.specs.declared.names.Mnemonic.TheVariants as mnemonics
use Rattle.alpha_operands.specs.declared.number.Number.TheVariants as numbers
use Rattle.alpha_operands.specs.declared.piece.Piece.TheVariants as pieces
use Rattle.alpha_operands.specs.Ranges.{number_of}
use Rattle.alpha_text.specs.Statements.{code}
use Rattle.alpha_quick.specs.TerminatedLine.{rest_from}
use Rattle.alpha_quick.proofs.LexemeMeanings.{Says-same, says_number}
use Rattle.alpha_quick.proofs.terminated_line.TerminatedLine.access.Goals as goal

pub returns : goal.returns
returns c =
    let s = c.args.self.now in
    let disp = c.in-Some-Displacement.disp in
    let sign = c.sign-sign.result.0 in
    let is : number_of pieces.Displacement sign c.from.result
    ≡ Some (numbers.Displacement c.in-Some-Displacement.disp) =
    sym (rw c.in-Some-Displacement.field-0-is at c.in-Some-Displacement.ensures) in
    let has : number_of pieces.Displacement sign c.in_ok-n.n ≡ Some (numbers.Displacement c.in-Some-Displacement.disp) =
    subst (λ n. number_of pieces.Displacement sign n ≡ Some (numbers.Displacement c.in-Some-Displacement.disp))
    c.from.ensures is in
    let plain : to_z w16 (of_z w16 c.in-Some-Displacement.disp) ≡ c.in-Some-Displacement.disp =
    to_z-of_z w16 c.in-Some-Displacement.disp (search rules) in
    let rest = 40 ∷ rest_from s c.in_ok-n.l in
    λ line first. Says-same (mnemonics.Mem c.args.op) line _ (code c.memory.result)
    (ap code (sym (rw plain at c.memory.ensures)))
    (says_number c.args.op c.args.ra c.in_ok-rb.rb c.in_ok-n.n sign disp line (rest_from s c.args.i) rest first
    (c.sign-sign.ensures.line c.in_ok-n.n rest c.in_ok-n.ensures.line) has c.in_ok-rb.ensures)
