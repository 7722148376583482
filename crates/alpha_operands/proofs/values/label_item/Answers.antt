use Rattle.std.proofs.Common.{◌∙◌, sym}
use Rattle.alpha_token.specs.Tokens.{lexeme}
use Rattle.alpha_operands.proofs.FirstValues.{first-label}
use Rattle.alpha_operands.proofs.values.label_item.Goals as goal

pub returns-in_ok-rest : goal.returns-in_ok-rest
returns-in_ok-rest c =
    λ list has. first-label (lexeme c.args.token.now) list c.in_ok-rest.rest.now has
    (sym c.is_label.ensures ∙ c.if-is_label.true) c.in_ok-rest.ensures
