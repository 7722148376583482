-- The image of a sample.
use Rattle.std.specs.Prelude.{ℕ, List, [], ◌∷◌}
use Rattle.alpha_words.specs.declared.Level.TheVariants as levels
use Rattle.alpha_image.specs.declared.version.Version.TheVariants as versions
use Rattle.alpha_image.specs.Parts.{Parts}

-- of some code words and so many zeroed bytes
abbrev pub sample : List ℕ → ℕ → Parts
sample words zeroed = record {
  version = versions.One;
  level = levels.One;
  code_base = 0x10000;
  entry = 0x10000;
  stack = 65536;
  segments = record { base = 0x10000000; filled = 0; zeroed = zeroed } ∷ [];
  words = words;
  bytes = [];
}
