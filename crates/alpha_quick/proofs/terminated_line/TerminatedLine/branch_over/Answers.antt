use Rattle.std.proofs.Common.{◌≡◌, ◌∷◌, w32, to_z, of_z, sym, ap, rules}
use Rattle.std.proofs.lemmas.Int.{to_z-of_z}
use Rattle.alpha_table.specs.declared.names.Mnemonic.TheVariants as mnemonics
use Rattle.alpha_operands.specs.declared.number.Number.TheVariants.{Words}
use Rattle.alpha_operands.specs.declared.piece.Piece.TheVariants.{Distance}
use Rattle.alpha_operands.proofs.OperandRanges.{number_of-within}
use Rattle.alpha_text.specs.Statements.{code}
use Rattle.alpha_quick.specs.TerminatedLine.{rest_from}
use Rattle.alpha_quick.proofs.LexemeMeanings.{Says-same, says_distance}
use Rattle.alpha_quick.proofs.terminated_line.TerminatedLine.branch_over.Goals as goal

pub branch-op-requires : goal.branch-op-requires
branch-op-requires c =
    let plain : to_z w32 (of_z w32 c.in_ok-disp.disp) ≡ c.in_ok-disp.disp =
    to_z-of_z w32 c.in_ok-disp.disp (search rules) in
    let (sign, after, digits, dot, mark, (n, rest, number, end, is)) = c.in_ok-disp.ensures in
    rw plain (number_of-within Distance sign n (Words c.in_ok-disp.disp) is)

pub returns : goal.returns
returns c =
    let plain : to_z w32 (of_z w32 c.in_ok-disp.disp) ≡ c.in_ok-disp.disp =
    to_z-of_z w32 c.in_ok-disp.disp (search rules) in
    λ line first. Says-same (mnemonics.Branch c.args.op) line _ (code c.branch-op.result)
    (ap code (sym (rw plain at c.branch-op.ensures)))
    (says_distance c.args.op c.args.ra c.in_ok-disp.disp line (46 ∷ rest_from c.args.self.now c.args.i) first
    c.in_ok-disp.ensures)
