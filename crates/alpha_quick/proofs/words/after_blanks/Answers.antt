use Rattle.std.proofs.Common.{◌∙◌, ap, sym}
use Rattle.alpha_token.specs.Tokens.{tokens}
use Rattle.alpha_token.proofs.TokenSuffixes.{tokens-blanks}
use Rattle.alpha_quick.proofs.words.after_blanks.Goals as goal

pub returns-in-32 : goal.returns-in-32
returns-in-32 c = tokens-blanks c.args.s.now ∙ ap tokens (sym c.without_blanks.ensures.value)
