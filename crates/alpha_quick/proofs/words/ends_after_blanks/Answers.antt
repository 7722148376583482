use Rattle.std.proofs.Common.{◌≡◌, ◌<◌, ◌∙◌, length, get_or, ap, sym, rules}
use Rattle.alpha_token.specs.Tokens.{tokens}
use Rattle.alpha_token.proofs.TokenSuffixes.{tokens-blanks, tokens-comment, tokens-empty}
use Rattle.alpha_quick.proofs.words.ends_after_blanks.Goals as goal

pub returns-in-empty : goal.returns-in-empty
returns-in-empty c =
    let none : length c.without_blanks.result.now ≡ 0 = search rules in
    λ h. (
      _,
      tokens-blanks c.args.s.now ∙ ap tokens (sym c.without_blanks.ensures.value)
          ∙ tokens-empty c.without_blanks.result.now none,
    )

pub returns-in-empty-2 : goal.returns-in-empty-2
returns-in-empty-2 c =
    let some : 0 < length c.without_blanks.result.now = search rules in
    let first : get_or c.without_blanks.result.now 0 0 ≡ 35 = search rules in
    λ h. (
      _,
      tokens-blanks c.args.s.now ∙ ap tokens (sym c.without_blanks.ensures.value)
          ∙ tokens-comment c.without_blanks.result.now some first,
    )
