use Rattle.std.proofs.Common.{◌-◌, ◌≡◌, ◌≤◌}
use Rattle.alpha_token.specs.Tokens.{tokens}
use Rattle.alpha_quick.specs.TerminatedLine.{rest_from}
use Rattle.alpha_quick.proofs.terminated_line.TerminatedLine.after_spaces.Given as goal

-- no more stands before this place than spaces
abbrev pub invariant-loop-i : goal.invariant-loop-i
invariant-loop-i l = (l.i ≤ l.self.end) × (tokens (rest_from l.self l.start) ≡ tokens (rest_from l.self l.i))

abbrev pub decreases-loop-i : goal.decreases-loop-i
decreases-loop-i l = l.self.end - l.i
