use Rattle.std.proofs.Common.{◌∷◌, ◌<◌, ◌∙◌, Some, decimal, sym, ap, arith}
use Rattle.alpha_token.specs.Tokens.{tokens}
use Rattle.alpha_text.proofs.Registers.{register_of-number}
use Rattle.alpha_text.proofs.CanonicalTokens.{token-reg}
use Rattle.alpha_quick.proofs.words.register_by_number.Goals as goal

pub returns-in_ok-r : goal.returns-in_ok-r
returns-in_ok-r c =
    let n = c.in_ok-n.n in
    let small : n < 32 = c.if-n-lt32.true in (
      36 ∷ decimal n,
      register_of-number n small ∙ ap Some (sym c.in_ok-r.ensures.found),
      ap tokens (c.in_ok-digits.ensures ∙ ap (λ t. 36 ∷ t) c.in_ok-n.ensures)
          ∙ token-reg n c.in_ok-n.rest.now (omega arith) (c.ends_word.ensures c.if-ends_word.true),
    )
