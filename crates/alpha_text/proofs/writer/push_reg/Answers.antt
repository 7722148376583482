use Rattle.std.proofs.Common.{◌≡◌, ◌+◌, ◌/◌, ◌%◌, ◌∷◌, ◌++◌, [], List, ℕ, decimal, sym, ap, ◌∙◌, arith}
use Rattle.std.proofs.lemmas.Fmt.{decimal_digit, decimal_step}
use Rattle.alpha_text.proofs.writer.push_reg.Goals as goal

pub returns-then-n-lt10-clause-value : goal.returns-then-n-lt10-clause-value
returns-then-n-lt10-clause-value c =
    let n = c.number-n.result in
    c.push.ensures
    ∙ ap (λ (l : List ℕ). c.args.to.now ++ (36 ∷ l))
    (sym (decimal_digit n c.if-n-lt10.true) ∙ ap decimal c.number-n.ensures.value)

pub returns-else-n-lt10-clause-value : goal.returns-else-n-lt10-clause-value
returns-else-n-lt10-clause-value c =
    let n = c.number-n.result in
    let tens : decimal (n / 10) ≡ (48 + n / 10) ∷ [] = decimal_digit (n / 10) (omega arith) in
    let two : decimal n ≡ (48 + n / 10) ∷ (48 + n % 10) ∷ [] =
    decimal_step n (omega arith) (omega arith) ∙ ap (λ (l : List ℕ). l ++ ((48 + n % 10) ∷ [])) tens in
    c.push-else-n-lt10.ensures
    ∙ ap (λ (l : List ℕ). c.args.to.now ++ (36 ∷ l)) (sym two ∙ ap decimal c.number-n.ensures.value)
