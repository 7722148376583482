use Rattle.std.proofs.Common.{◌≡◌, [], Some, w32, to_z, of_z, sym, subst, rules}
use Rattle.std.proofs.lemmas.Int.{to_z-of_z}
use Rattle.alpha_operands.specs.declared.number.Number.TheVariants as numbers
use Rattle.alpha_operands.specs.declared.piece.Piece.TheVariants as pieces
use Rattle.alpha_operands.specs.Ranges.{number_of}
use Rattle.alpha_quick.proofs.TerminatedLines.{HasEnd-empty}
use Rattle.alpha_quick.proofs.terminated_line.TerminatedLine.displacement.Goals as goal

pub returns : goal.returns
returns c =
    let is : number_of pieces.Distance c.args.sign c.from.result ≡ Some (numbers.Words c.in-Some-Words.words) =
    sym (rw c.in-Some-Words.field-0-is at c.in-Some-Words.ensures) in
    let plain : to_z w32 (of_z w32 c.in-Some-Words.words) ≡ c.in-Some-Words.words =
    to_z-of_z w32 c.in-Some-Words.words (search rules) in
    rw plain (
      c.in_ok-n.n,
      [],
      c.in_ok-n.ensures,
      HasEnd-empty,
      subst (λ n. number_of pieces.Distance c.args.sign n ≡ Some (numbers.Words c.in-Some-Words.words)) c.from.ensures
          is,
    )
