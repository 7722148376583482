use Rattle.std.proofs.Common.{arith}
use Rattle.alpha_token.proofs.Digits.{digits_value_after-too_large}
use Rattle.alpha_token.proofs.numeral.digits_value.Goals as goal

pub returns-in_err-n : goal.returns-in_err-n
returns-in_err-n c =
    rw c.from_residual.ensures
    (digits_value_after-too_large c.args.radix c.loop-digit.n c.args.digits.now c.loop-digit.digit-index _ c.requires
    (omega arith)
    (omega (arith, c.in_err-n.ensures)) c.loop-digit.invariant)
