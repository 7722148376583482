use Rattle.std.proofs.Common.{ℕ, ◌+◌, ◌<◌, map, get_or}
use Rattle.alpha_image.proofs.rules.bases_rise.Given as goal

abbrev pub invariant-loop-n : goal.invariant-loop-n
invariant-loop-n l =
    (k : ℕ) → k + 1 < l.n → get_or (map (λ s. s.base) l.segments) k 0 < get_or (map (λ s. s.base) l.segments) (k + 1) 0
