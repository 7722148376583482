use Rattle.std.proofs.Common.{◌-◌, ◌≡◌, ◌<◌, ◌++◌, decimal}
use Rattle.alpha_quick.proofs.words.with_digits.Given as goal

-- so far the digits are those of the number
abbrev pub invariant-loop-n : goal.invariant-loop-n
invariant-loop-n l = (0 < l.n) × (l.n < 100000000) × (decimal l.first ++ l.s ≡ decimal l.n ++ l.rest)

abbrev pub decreases-loop-n : goal.decreases-loop-n
decreases-loop-n l = 100000000 - l.n
