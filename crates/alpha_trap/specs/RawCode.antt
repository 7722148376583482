-- Code without an image: its words, and the address of the first one.
use Rattle.std.specs.Prelude.{ℕ, List, []}
use Rattle.alpha_words.specs.declared.Level.TheVariants as levels
use Rattle.alpha_image.specs.declared.version.Version.TheVariants as versions
use Rattle.alpha_image.specs.Parts.{Parts}

-- The parts of an image that has this code. The scan and the handler read no other part: it runs from its first word,
-- and has neither data nor a stack.
abbrev pub raw_code : List ℕ → ℕ → Parts
raw_code words base = record {
  version = versions.Two;
  level = levels.Two;
  code_base = base;
  entry = base;
  stack = 0;
  segments = [];
  words = words;
  bytes = [];
}
