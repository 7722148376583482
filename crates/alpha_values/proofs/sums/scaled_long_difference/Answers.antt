use Rattle.std.proofs.Common.{rules, ◌∙◌, ap}
use Rattle.std.proofs.lemmas.Int.{wraps}
use Rattle.alpha_values.specs.Numbers.{register_of}
use Rattle.alpha_values.proofs.sums.scaled_long_difference.Goals as goal

pub returns : goal.returns
returns c = c.register.ensures ∙ ap register_of (search (rules, wraps))
