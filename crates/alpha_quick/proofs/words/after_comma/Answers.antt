use Rattle.std.proofs.Common.{◌≡◌, ℕ, List, [], ◌∷◌, ◌∙◌, ap}
use Rattle.alpha_token.specs.Tokens.{Next, tokens}
use Rattle.alpha_token.specs.declared.token.TokenKind.TheVariants as kinds
use Rattle.alpha_quick.specs.Words.{HasMark, HasComma}
use Rattle.alpha_text.proofs.CanonicalTokens.{tokens-comma_first}
use Rattle.alpha_quick.proofs.words.after_comma.Goals as goal

-- blanks may stand behind it
behind_comma : (line after rest : List ℕ) → HasMark line kinds.Comma after → tokens after ≡ tokens rest
    → HasComma line rest
behind_comma line after rest (text, e) same =
    (text, after, e ∙ ap (Next (record { kind = kinds.Comma; text = text; rest = after })) same)

pub returns-in-Some : goal.returns-in-Some
returns-in-Some c =
    behind_comma c.args.s.now c.in-Some.rest.now c.after_blanks.result.now
    (44 ∷ [], ap tokens c.in-Some.ensures ∙ tokens-comma_first c.in-Some.rest.now) c.after_blanks.ensures

pub returns-in_ok-rest-in-None : goal.returns-in_ok-rest-in-None
returns-in_ok-rest-in-None c =
    behind_comma c.args.s.now c.in_ok-rest-in-None.rest.now c.after_blanks-in-None.result.now
    (44 ∷ [], c.in_ok-rest-in-None.ensures ∙ tokens-comma_first c.in_ok-rest-in-None.rest.now)
    c.after_blanks-in-None.ensures
