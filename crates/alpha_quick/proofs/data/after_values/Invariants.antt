use Rattle.std.proofs.Common.{ℕ, List}
use Rattle.alpha_quick.specs.Listed.{HasValues}
use Rattle.alpha_quick.proofs.data.after_values.Given as goal

-- the values of the rest make up for all
abbrev pub invariant-loop : goal.invariant-loop
invariant-loop l = (end : List ℕ) → HasValues l.piece l.rest end → HasValues l.piece l.words end
