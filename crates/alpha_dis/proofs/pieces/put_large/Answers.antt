use Rattle.std.proofs.Common.{◌≡◌, ◌++◌, ◌/◌, ◌%◌, List, ℕ, decimal, append_assoc, sym, ap, ◌∙◌, arith}
use Rattle.alpha_dis.specs.Written.{before}
use Rattle.alpha_dis.proofs.PutPieces.{pair_digits, decimal_pairs}
use Rattle.alpha_dis.proofs.pieces.put_large.Goals as goal
use Rattle.alpha_dis.proofs.pieces.put_large.Goals.{then-front-lt100, else-front-lt100}

pub returns-after-front-lt100-clause-value : goal.returns-after-front-lt100-clause-value
returns-after-front-lt100-clause-value c =
    let n = c.args.number in
    let place = c.args.at in
    let front = before place c.args.bytes.now in
    let tens = pair_digits (n / 100 % 100) in
    let ones = pair_digits (n % 100) in
    let first : before c.if-front-lt100.next c.if-front-lt100.bytes ≡ front ++ decimal (n / 10000) =
    elim c.if-front-lt100.branch [
      | then-front-lt100 w ↦ (λ i. before (w.next-is i) (w.bytes-is i)) ∙ w.put_small-next.ensures.value
      | else-front-lt100 w ↦ (λ i. before (w.next-is i) (w.bytes-is i)) ∙ w.put_hundreds-next.ensures.value
    ] in
    c.put_pair.ensures.value
    ∙ (ap (λ (l : List ℕ). l ++ ones)
    (c.put_pair-next.ensures.value
    ∙ (ap (λ (l : List ℕ). l ++ tens) first ∙ append_assoc front (decimal (n / 10000)) tens))
    ∙ (append_assoc front (decimal (n / 10000) ++ tens) ones
    ∙ ap (λ (l : List ℕ). front ++ l) (sym (decimal_pairs n c.if-number-lt10000.false (omega arith)))))
