use Rattle.std.proofs.Common.{◌≡◌, ◌≤◌, ◌+◌, ◌-◌, length}
use Rattle.std.specs.Option.{option_map}
use Rattle.alpha_token.specs.Quoted.{quoted_len}
use Rattle.alpha_token.proofs.quoted.quoted_len.Given as goal

-- the closing quote stands where it stands in the rest, behind the bytes passed over
abbrev pub invariant-loop-rest : goal.invariant-loop-rest
invariant-loop-rest l =
    (length l.rest ≤ length l.text)
    × (quoted_len 0 l.text ≡ option_map (λ n. n + (length l.text - length l.rest)) (quoted_len 0 l.rest))

abbrev pub decreases-loop-rest : goal.decreases-loop-rest
decreases-loop-rest l = length l.rest
