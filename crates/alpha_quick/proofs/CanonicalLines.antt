-- The words of canonical lines, one behind the other.
use Rattle.std.proofs.Common.{◌≡◌, ℕ, List, [], ◌∷◌, ◌++◌, ◌+◌, ◌*◌, ◌/◌, ◌%◌, ◌<◌, ◌^◌, decimal, append_assoc, arith}
use Rattle.std.proofs.lemmas.Fmt.{decimal_step}

-- a further digit
pub decimal_next_digit : (n d : ℕ) (rest : List ℕ) → 0 < n → 10 * n + d < 2 ^ 64 → d < 10
    → decimal (10 * n + d) ++ rest ≡ decimal n ++ ((48 + d) ∷ rest)
decimal_next_digit n d rest h l small =
    let a : (10 * n + d) / 10 ≡ n = omega arith in
    let b : (10 * n + d) % 10 ≡ d = omega arith in
    rw (decimal_step (10 * n + d) (omega arith) (omega arith), a, b) (append_assoc (decimal n) ((48 + d) ∷ []) rest)
