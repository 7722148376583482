use Rattle.std.proofs.Common.{[], ◌∷◌, ◌∙◌, refl, ap}
use Rattle.alpha_token.specs.Tokens.{tokens}
use Rattle.alpha_text.proofs.CanonicalTokens.{token-high, token-low, token-open}
use Rattle.alpha_quick.proofs.words.half.Goals as goal

pub returns-in-Some : goal.returns-in-Some
returns-in-Some c = (
  37 ∷ 104 ∷ 105 ∷ [],
  40 ∷ c.in-Some.inner.now,
  refl,
  ap tokens (c.in_ok-name.ensures ∙ ap (λ t. 37 ∷ t) c.in-Some.ensures) ∙ token-high c.in-Some.inner.now,
  (40 ∷ [], token-open c.in-Some.inner.now),
)

pub returns-in_ok-inner-in-None : goal.returns-in_ok-inner-in-None
returns-in_ok-inner-in-None c = (
  37 ∷ 108 ∷ 111 ∷ [],
  40 ∷ c.in_ok-inner-in-None.inner.now,
  refl,
  ap tokens (c.in_ok-name.ensures ∙ ap (λ t. 37 ∷ t) c.in_ok-inner-in-None.ensures)
      ∙ token-low c.in_ok-inner-in-None.inner.now,
  (40 ∷ [], token-open c.in_ok-inner-in-None.inner.now),
)
