-- The words of a seeded chooser.
use Rattle.std.specs.Prelude.{ℕ, zero, suc}
use Rattle.rand_core.specs.Pcg32Seed.{pcg32_seed}
use Rattle.rand_pcg.specs.Lcg.{Lcg}
use Rattle.rand_pcg.specs.Pcg.{pcg64, pcg64_of_seed}

-- the generator that a number seeds
abbrev pub seeded : ℕ → Lcg
seeded seed = pcg64_of_seed (pcg32_seed 32 seed)

-- the word that it answers after so many others
abbrev pub pcg_word : Lcg → ℕ → ℕ
pcg_word g zero = (pcg64 g).0
pcg_word g (suc k) = pcg_word (pcg64 g).1 k
