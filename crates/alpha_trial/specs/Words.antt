-- The program of a trial as words, and its image.
use Rattle.std.specs.Prelude.{ℕ, zero, suc, ◌+◌, ◌%◌, List, [], ◌∷◌, ◌++◌}
use Rattle.rand_pcg.specs.Lcg.{Lcg}
use Rattle.rand_pcg.specs.Pcg.{pcg32}
use Rattle.alpha_words.specs.declared.Level.TheVariants as levels
use Rattle.alpha_image.specs.declared.version.Version.TheVariants as versions
use Rattle.alpha_image.specs.Parts.{Parts}
use Rattle.alpha_trial.specs.Program.{seeded}

-- the field of 16 bits of the displacement that a drawn word gives
abbrev pub displacement_field : ℕ → ℕ
displacement_field x = (x % 65536 + 32768) % 65536

abbrev pub block_words : ℕ → ℕ → List ℕ
block_words x y =
    (0x243f0000 + displacement_field x)
    ∷ (0x245f0000 + displacement_field y)
    ∷ 0x40220803
    ∷ 0x20830001
    ∷ 0x4c220805
    ∷ 0x63ff0000
    ∷ 0x44670807
    ∷ 0x44870807
    ∷ 0x44a70807
    ∷ []

abbrev pub ending_words : List ℕ
ending_words =
    0x251f1000
    ∷ 0xb4e80000
    ∷ 0x221f0001
    ∷ 0x47e80411
    ∷ 0x225f0008
    ∷ 0x201f0004
    ∷ 0x00000083
    ∷ 0x221f0000
    ∷ 0x201f0001
    ∷ 0x00000083
    ∷ []

abbrev pub blocks_words : ℕ → Lcg → List ℕ
blocks_words zero g = []
blocks_words (suc n) g = let x = pcg32 g in let y = pcg32 x.1 in block_words x.0 y.0 ++ blocks_words n y.1

unfoldable pub program_words : ℕ → List ℕ
program_words n = blocks_words n (seeded n) ++ ending_words

-- The image: the fields are those of a source that says nothing of them, with no data bytes and eight zeroed bytes.
abbrev pub trial_image : ℕ → Parts
trial_image n = record {
  version = versions.One;
  level = levels.One;
  code_base = 0x10000;
  entry = 0x10000;
  stack = 65536;
  segments = record { base = 0x10000000; filled = 0; zeroed = 8 } ∷ [];
  words = program_words n;
  bytes = [];
}
