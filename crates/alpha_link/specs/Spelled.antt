-- The bytes of modules, both ways.
use Rattle.std.specs.Prelude.{◌*◌, ◌-◌, ℕ, List, [], ◌∷◌, ◌++◌, length, take, Option, None, Some, Result, Ok, Err}
use Rattle.std.specs.List.{flat_map}
use Rattle.alpha_words.specs.declared.Level.TheVariants.{One}
use Rattle.alpha_image.specs.Layout.{longword}
use Rattle.alpha_image.specs.Reading.{words_of}
use Rattle.alpha_image.specs.declared.fault.ImageFault.{ImageFault}
use Rattle.alpha_image.specs.declared.fault.ImageFault.TheVariants.{BadWord}
use Rattle.alpha_image.specs.ImageFault.{bad_place}
use Rattle.alpha_link.specs.declared.fault.ModuleFault.{ModuleFault}
use Rattle.alpha_link.specs.declared.fault.ModuleFault.TheVariants.{Word, Rest, NoMemory}
use Rattle.alpha_link.specs.declared.header.Sizes.{Sizes}
use Rattle.alpha_link.specs.declared.relocation.Relocation.{Relocation}
use Rattle.alpha_link.specs.Reading.{Read, and_then, taken, items_at}
use Rattle.alpha_link.specs.Header.{header_at, header_bytes}
use Rattle.alpha_link.specs.Symbols.{Named, symbol_at, symbol_bytes}
use Rattle.alpha_link.specs.Relocations.{body, relocation_at, relocation_bytes}
use Rattle.alpha_link.specs.Parts.{ModuleParts, sizes_of}

-- the fault of code words; memory may run out in place of any other
abbrev pub fault_of_words : ImageFault → ModuleFault
fault_of_words (BadWord place word) = Word place
fault_of_words _ = NoMemory

-- what is read, unless a word is bad
abbrev pub unless_bad : {X : Type 0} → Option ℕ → Read X → Read X
unless_bad None read = read
unless_bad (Some place) read = Err (Word place)

-- So many code words. A bad word among those that are whole comes before one that isn't whole.
unfoldable pub words_at : ℕ → ℕ → List ℕ → Read (List ℕ)
words_at total n bytes =
    unless_bad (bad_place One (words_of (take (4 * n) bytes)))
    (and_then (taken total (4 * n) bytes) (λ x. Ok (words_of x.0, x.1)))

-- what is read of all bytes, unless some are left
abbrev pub ended : ℕ → ModuleParts → List ℕ → Result ModuleParts ModuleFault
ended total m [] = Ok m
ended total m (b ∷ rest) = Err (Rest (total - length (b ∷ rest)))

abbrev pub parts : Sizes → List ℕ → List ℕ → List Named → List Relocation → ModuleParts
parts z words bytes symbols relocations = record {
  words = words;
  bytes = bytes;
  zeroed = z.zeroed;
  symbols = symbols;
  relocations = relocations;
}

-- the parts that stand behind the sizes, one after the other
abbrev pub relocated_at : ℕ → Sizes → List ℕ → List ℕ → List Named → List ℕ → Result ModuleParts ModuleFault
relocated_at total z words bytes symbols rest =
    and_then (items_at (relocation_at total z (body words bytes)) z.relocations [] rest)
    (λ relocations. ended total (parts z words bytes symbols relocations.0) relocations.1)

abbrev pub named_at : ℕ → Sizes → List ℕ → List ℕ → List ℕ → Result ModuleParts ModuleFault
named_at total z words bytes rest =
    and_then (items_at (symbol_at total z) z.symbols [] rest)
    (λ symbols. relocated_at total z words bytes symbols.0 symbols.1)

abbrev pub filled_at : ℕ → Sizes → List ℕ → List ℕ → Result ModuleParts ModuleFault
filled_at total z words rest =
    and_then (taken total z.filled rest) (λ bytes. named_at total z words bytes.0 bytes.1)

abbrev pub coded_at : ℕ → Sizes → List ℕ → Result ModuleParts ModuleFault
coded_at total z rest = and_then (words_at total z.words rest) (λ words. filled_at total z words.0 words.1)

-- the module that bytes spell, or their first fault
unfoldable pub module_at : List ℕ → Result ModuleParts ModuleFault
module_at bytes = and_then (header_at bytes) (λ z. coded_at (length bytes) z.0 z.1)

-- the one spelling of a module
unfoldable pub spelling : ModuleParts → List ℕ
spelling m =
    header_bytes (sizes_of m)
    ++ (flat_map longword m.words
    ++ (m.bytes ++ (flat_map symbol_bytes m.symbols ++ flat_map relocation_bytes m.relocations)))
