use Rattle.std.proofs.Common.{◌≡◌, [], ◌∷◌, ◌∙◌, ap}
use Rattle.alpha_token.specs.declared.token.TokenKind.TheVariants as kinds
use Rattle.alpha_token.specs.Tokens.{tokens}
use Rattle.alpha_quick.specs.Words.{HasMark}
use Rattle.alpha_quick.proofs.LexemeMeanings.{IfSome-implied}
use Rattle.alpha_text.proofs.CanonicalTokens.{token-close}
use Rattle.alpha_quick.proofs.words.after_close.Goals as goal

pub returns-in-Some : goal.returns-in-Some
returns-in-Some c = (41 ∷ [], ap tokens c.in-Some.ensures ∙ token-close c.in-Some.rest.now)

pub returns-in-None : goal.returns-in-None
returns-in-None c =
    IfSome-implied (λ r. tokens c.args.s.now ≡ tokens (41 ∷ r.now)) (λ r. HasMark c.args.s.now kinds.Close r.now)
    c.after_blanks_and_byte.result (λ r h. (41 ∷ [], h ∙ token-close r.now)) c.after_blanks_and_byte.ensures
