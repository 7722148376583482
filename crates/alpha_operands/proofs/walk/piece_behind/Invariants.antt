use Rattle.std.proofs.Common.{◌≡◌, map, drop}
use Rattle.alpha_operands.specs.Walk.{piece_behind}
use Rattle.alpha_operands.proofs.walk.piece_behind.Given as goal

-- the patterns that are left decide
abbrev pub invariant-loop-pattern : goal.invariant-loop-pattern
invariant-loop-pattern l =
    piece_behind (map (λ p. p.now) (drop l.pattern-index l.patterns)) l.front l.kind
    ≡ piece_behind (map (λ p. p.now) l.patterns) l.front l.kind
