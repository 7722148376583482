-- What a module is made of, and which modules are good.
use Rattle.std.specs.Prelude.{◌<◌, ◌≤◌, ◌^◌, ◌+◌, ℕ, List, [], ◌∷◌, ◌++◌, length, All}
use Rattle.alpha_words.specs.declared.Level.TheVariants.{One}
use Rattle.alpha_image.specs.Parts.{IsByte, IsCodeWord}
use Rattle.alpha_link.specs.declared.header.Sizes.{Sizes}
use Rattle.alpha_link.specs.declared.relocation.Relocation.{Relocation}
use Rattle.alpha_link.specs.Symbols.{Named, IsSymbol}
use Rattle.alpha_link.specs.Relocations.{Body, body, IsRelocation}

-- the code words, the data bytes, how many zeroed bytes stand behind them, the symbols and the relocations
pub record ModuleParts : Type 0 where
  pub words : List ℕ
  pub bytes : List ℕ
  pub zeroed : ℕ
  pub symbols : List Named
  pub relocations : List Relocation

abbrev pub sizes_of : ModuleParts → Sizes
sizes_of m = record {
  words = length m.words;
  filled = length m.bytes;
  zeroed = m.zeroed;
  symbols = length m.symbols;
  relocations = length m.relocations;
}

abbrev pub body_of : ModuleParts → Body
body_of m = body m.words m.bytes

-- each item of a list is good behind those before it
abbrev pub AreGood : {X : Type 0} → (List X → X → Type 0) → List X → List X → Type 0
AreGood Good before [] = Unit {0}
AreGood Good before (x ∷ xs) = Good before x × AreGood Good (before ++ x ∷ []) xs

-- the sizes are not too great, and each word, symbol and relocation is good
pub record IsModule (m : ModuleParts) : Type 0 where
  pub few : length m.words ≤ 262144
  pub size : length m.bytes + m.zeroed ≤ 16777216
  pub words : All (IsCodeWord One) m.words
  pub bytes : All IsByte m.bytes
  pub symbols : AreGood (IsSymbol (sizes_of m)) [] m.symbols
  pub symbol_count : length m.symbols < 2 ^ 32
  pub relocations : AreGood (IsRelocation (sizes_of m) (body_of m)) [] m.relocations
  pub relocation_count : length m.relocations < 2 ^ 32
