use Rattle.alpha_token.specs.Numeral.{number_value}
use Rattle.std.proofs.Common.{sym, ◌∙◌}
use Rattle.alpha_operands.proofs.NumberBounds.{number_of-large}
use Rattle.alpha_operands.proofs.operands.number_of.Goals as goal

pub returns-in_err-number : goal.returns-in_err-number
returns-in_err-number c =
    c.from_residual.ensures
    ∙ sym (number_of-large c.args.piece c.args.sign (number_value c.args.text.now) c.in_err-number.ensures)
