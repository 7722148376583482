use Rattle.std.proofs.Common.{◌-◌, ◌≡◌, ◌<◌, ◌≤◌, ◌++◌, decimal}
use Rattle.alpha_quick.specs.TerminatedLine.{rest_from}
use Rattle.alpha_quick.proofs.terminated_line.TerminatedLine.append_digits.Given as goal

-- so far the digits are those of the number
abbrev pub invariant-loop-n : goal.invariant-loop-n
invariant-loop-n l =
    (0 < l.n) × (l.n < 100000000) × (l.j ≤ l.self.end)
    × (decimal l.first ++ rest_from l.self l.i ≡ decimal l.n ++ rest_from l.self l.j)

abbrev pub decreases-loop-n : goal.decreases-loop-n
decreases-loop-n l = 100000000 - l.n
