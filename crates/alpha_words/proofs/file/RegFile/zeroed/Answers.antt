use Rattle.std.proofs.Common.{ℕ, ◌^◌, ◌<◌, ◌≤◌, refl, replicate, get_or, ⊎_elim, arith}
use Rattle.std.proofs.lemmas.List.{get_or-replicate, get_or_past}
use Rattle.std.proofs.lemmas.Bool.{cases_lt}
use Rattle.alpha_words.specs.Regs.{reg}
use Rattle.alpha_words.proofs.file.RegFile.zeroed.Goals as goal

zeros_bound : (r : ℕ) → get_or (replicate 32 0) r 0 < 2 ^ 64
zeros_bound r =
    ⊎_elim (λ (p : r < 32). omega (arith, get_or-replicate {A = ℕ} 32 r 0 0 p))
    (λ (p : 32 ≤ r). omega (arith, get_or_past {X = ℕ} (replicate 32 0) r 0 p)) (cases_lt r 32)

pub returns-clause-file : goal.returns-clause-file
unfolding reg
returns-clause-file c = record { size = refl; zero = refl; bounds = λ r. zeros_bound r }
