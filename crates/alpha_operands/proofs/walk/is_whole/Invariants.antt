use Rattle.std.proofs.Common.{◌≡◌, map, drop}
use Rattle.alpha_operands.specs.Walk.{is_whole}
use Rattle.alpha_operands.proofs.walk.is_whole.Given as goal

-- the patterns that are left decide
abbrev pub invariant-loop-pattern : goal.invariant-loop-pattern
invariant-loop-pattern l =
    is_whole (map (λ p. p.now) (drop l.pattern-index l.patterns)) l.front
    ≡ is_whole (map (λ p. p.now) l.patterns) l.front
