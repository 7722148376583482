use Rattle.std.proofs.Common.{◌≡◌, [], ◌∷◌, ◌∙◌, ap}
use Rattle.alpha_token.specs.declared.token.TokenKind.TheVariants as kinds
use Rattle.alpha_token.specs.Tokens.{tokens}
use Rattle.alpha_quick.specs.Words.{HasMark}
use Rattle.alpha_quick.proofs.LexemeMeanings.{IfSome-implied}
use Rattle.alpha_text.proofs.CanonicalTokens.{token-open}
use Rattle.alpha_quick.proofs.words.after_open.Goals as goal

pub returns-in-Some : goal.returns-in-Some
returns-in-Some c = (40 ∷ [], ap tokens c.in-Some.ensures ∙ token-open c.in-Some.rest.now)

pub returns-in-None : goal.returns-in-None
returns-in-None c =
    IfSome-implied (λ r. tokens c.args.s.now ≡ tokens (40 ∷ r.now)) (λ r. HasMark c.args.s.now kinds.Open r.now)
    c.after_blanks_and_byte.result (λ r h. (40 ∷ [], h ∙ token-open r.now)) c.after_blanks_and_byte.ensures
