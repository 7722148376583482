use Rattle.std.proofs.Common.{◌++◌, ◌/◌, ◌%◌, List, ℕ, decimal, append_assoc, sym, ap, ◌∙◌, arith}
use Rattle.alpha_dis.specs.Written.{before}
use Rattle.alpha_dis.proofs.PutPieces.{pair_digits, decimal_pair}
use Rattle.alpha_dis.proofs.pieces.put_hundreds.Goals as goal

pub returns-clause-value : goal.returns-clause-value
returns-clause-value c =
    let n = c.args.number in
    let front = before c.args.at c.args.bytes.now in
    c.put_pair.ensures.value
    ∙ (ap (λ (l : List ℕ). l ++ pair_digits (n % 100)) c.put_small-next.ensures.value
    ∙ (append_assoc front (decimal (n / 100)) (pair_digits (n % 100))
    ∙ ap (λ (l : List ℕ). front ++ l) (sym (decimal_pair n c.requires.large (omega arith)))))
