use Rattle.std.proofs.Common.{refl, ◌∙◌, ap, sym, subst}
use Rattle.alpha_token.specs.Tokens.{tokens}
use Rattle.alpha_text.specs.SuffixWords.{IsApart}
use Rattle.alpha_text.proofs.CanonicalTokens.{tokens-space}
use Rattle.alpha_quick.proofs.line.after_name.Goals as goal

pub returns-in-Some : goal.returns-in-Some
returns-in-Some c = (
  subst IsApart (sym c.in-Some.ensures) (refl, refl),
  ap tokens c.in-Some.ensures ∙ tokens-space c.in-Some.words.now ∙ c.after_blanks.ensures,
)
