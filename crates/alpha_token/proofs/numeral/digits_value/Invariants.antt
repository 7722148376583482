use Rattle.std.proofs.Common.{◌≡◌, drop}
use Rattle.std.specs.Str.Parse.{digits_value, digits_value_after}
use Rattle.alpha_token.proofs.numeral.digits_value.Given as goal

-- what the digits so far give, with the rest, is the whole number
abbrev pub invariant-loop-digit : goal.invariant-loop-digit
invariant-loop-digit l = digits_value_after l.radix l.n (drop l.digit-index l.digits) ≡ digits_value l.radix l.digits
