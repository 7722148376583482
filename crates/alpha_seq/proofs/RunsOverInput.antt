-- How the runs of a program over an input stand to one another. The function of `src/laws.rt` carries these as its
-- contract.
use Rattle.std.proofs.Common.{◌≡◌, ◌∙◌, ◌<◌, ◌≤◌, ℕ, zero, suc, true, false, List, length, sym, ap, ⊎_elim, arith}
use Rattle.std.proofs.Math.Nat.{eq-or-lt_of_le}
use Rattle.alpha_seq.specs.State.{Program, State}
use Rattle.alpha_seq.specs.Run.{Run, after, advance, is_over}
use Rattle.alpha_seq.proofs.RunSequence.{advance-over, after-fed}

-- a run that is over stays
pub after-over : (g : Program) (s : State) (input : List ℕ) (m n : ℕ) → n ≤ m
    → is_over (after g s input n).at.event ≡ true → after g s input m ≡ after g s input n
after-over g s input zero n h e = let same : 0 ≡ n = omega (arith, h) in ap (λ k. after g s input k) same
after-over g s input (suc m) n h e =
    ⊎_elim
    (λ (same : n ≡ suc m). ap (λ k. after g s input k) (sym same))
    (λ (below : n < suc m).
    let there : n ≤ m = omega (arith, below) in
    ap (λ (r : Run). advance g r) (after-over g s input m n there e) ∙ advance-over g (after g s input n) e)
    (eq-or-lt_of_le h)

-- a run that isn't over has made all its steps
pub after-steps : (g : Program) (s : State) (input : List ℕ) (n : ℕ) → is_over (after g s input n).at.event ≡ false
    → length (after g s input n).events ≡ n
after-steps g s input n e = (after-fed g s input n).full e
