use Rattle.std.proofs.Common.{[], ◌∷◌, ◌∙◌, sym, ap}
use Rattle.alpha_token.specs.Tokens.{tokens}
use Rattle.alpha_text.proofs.CanonicalTokens.{token-letters}
use Rattle.alpha_quick.proofs.words.register_by_letters.Goals as goal

pub returns-in_ok-r : goal.returns-in_ok-r
returns-in_ok-r c =
    let a = c.in_ok-first.first in
    let b = c.in_ok-second.second in (
      36 ∷ a ∷ b ∷ [],
      sym c.in_ok-r.ensures,
      ap tokens (c.in_ok-name.ensures
          ∙ ap (λ t. 36 ∷ t) (c.in_ok-first.ensures.value ∙ ap (λ t. a ∷ t) c.in_ok-second.ensures.value))
          ∙ token-letters a b c.in_ok-second.rest.now c.in_ok-first.ensures.kind c.in_ok-second.ensures.kind
          (c.ends_word.ensures c.if-ends_word.true),
    )
