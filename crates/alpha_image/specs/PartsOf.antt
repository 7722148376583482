-- The parts that bytes give.
use Rattle.std.specs.Prelude.{◌≡◌, ◌++◌, drop, ℕ, List, length}
use Rattle.alpha_image.specs.declared.version.Version.{Version}
use Rattle.alpha_image.specs.declared.version.Version.TheVariants.{One, Two}
use Rattle.alpha_image.specs.Numbers.{Numbers}
use Rattle.alpha_image.specs.Rules.{FieldsFit}
use Rattle.alpha_image.specs.Layout.{magic}
use Rattle.alpha_image.specs.Reading.{version_of, numbered_level, numbers_of, size_of, words_in, data_in}
use Rattle.alpha_image.specs.Parts.{Parts}

abbrev pub version_number : Version → ℕ
version_number One = 1
version_number Two = 2

-- the parts with these numbers
abbrev pub parts_with : Version → Numbers → List ℕ → List ℕ → Parts
parts_with version n words bytes = record {
  version = version;
  level = numbered_level n.level;
  code_base = n.code_base;
  entry = n.entry;
  stack = n.stack;
  segments = n.segments;
  words = words;
  bytes = bytes;
}

-- the parts that bytes give
abbrev pub parts_of : List ℕ → Parts
parts_of bytes = parts_with (version_of bytes) (numbers_of bytes) (words_in bytes) (data_in bytes)

-- bytes that are an image but for the words of its code
pub record HasForm (bytes : List ℕ) : Type 0 where
  pub magic : bytes ≡ magic (version_of bytes) ++ drop 8 bytes
  pub fields : FieldsFit (numbers_of bytes)
  pub size : length bytes ≡ size_of (version_of bytes) (numbers_of bytes)
