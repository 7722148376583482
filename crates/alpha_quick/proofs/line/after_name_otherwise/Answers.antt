use Rattle.std.proofs.Common.{◌∙◌, ap, sym, rules}
use Rattle.alpha_token.specs.Tokens.{tokens}
use Rattle.alpha_token.proofs.TokenSuffixes.{tokens-blanks}
use Rattle.alpha_quick.proofs.line.after_name_otherwise.Goals as goal

pub returns-in-9 : goal.returns-in-9
returns-in-9 c = (search rules, tokens-blanks c.args.text.now ∙ ap tokens (sym c.without_blanks.ensures.value))
