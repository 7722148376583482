use Rattle.std.proofs.Common.{[], ◌∷◌, ◌∙◌, ap}
use Rattle.alpha_token.specs.Tokens.{tokens}
use Rattle.alpha_text.proofs.CanonicalTokens.{token-minus}
use Rattle.alpha_quick.proofs.words.signed_number.Goals as goal

pub returns-in_ok-n-in-Some : goal.returns-in_ok-n-in-Some
returns-in_ok-n-in-Some c = (
  c.in-Some.digits.now,
  (45 ∷ [], ap tokens c.in-Some.ensures ∙ token-minus c.in-Some.digits.now),
  c.in_ok-n-in-Some.ensures,
)
