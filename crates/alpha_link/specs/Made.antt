-- What the source of a module makes: its parts, or its first refusal.
use Rattle.std.specs.Prelude.{ℕ, ℤ, ◌+◌, ◌*◌, nat_le, List, [], ◌∷◌, ◌++◌, length, map, Option, None, Some, position}
use Rattle.std.specs.Prelude.{Result, Ok}
use Rattle.std.specs.Option.{option_map, option_and_then}
use Rattle.std.specs.List.{flat_map, filter_map}
use Rattle.std.specs.Ordering.{nat_cmp}
use Rattle.std.specs.Cmp.Lexicographic.{slice_cmp}
use Rattle.std.specs.FinMap as finite
use Rattle.std.specs.Str.{bytes_eq}
use Rattle.std.specs.Str.Lines.{lines}
use Rattle.alpha_table.specs.Encoded.{encoded}
use Rattle.alpha_text.specs.Reading.{LineStmt}
use Rattle.alpha_image.specs.FirstOf.{unless as field_unless, first_of}
use Rattle.alpha_asm.specs.declared.kind.SourceKind.TheVariants as source_kinds
use Rattle.alpha_asm.specs.declared.fault.AsmFault.{AsmFault}
use Rattle.alpha_asm.specs.declared.fault.AsmFault.TheVariants.{ImageField}
use Rattle.alpha_asm.specs.declared.place.Section.{Section}
use Rattle.alpha_asm.specs.declared.place.Section.TheVariants as sides
use Rattle.alpha_asm.specs.declared.place.LabelLocation.{LabelLocation}
use Rattle.alpha_asm.specs.declared.place.LabelLocation.TheVariants as spots
use Rattle.alpha_asm.specs.Layout.{Placed, layout, end, location_of}
use Rattle.alpha_asm.specs.Program.{Target, by_insn, by_cell, by_entry, names_in}
use Rattle.alpha_asm.specs.Patches.{Fix, raw_insns, raw_bytes, fixes}
use Rattle.alpha_asm.specs.Assembled.{unless, first_refused, item_at}
use Rattle.alpha_link.specs.declared.symbol.SymbolSection.TheVariants as sections
use Rattle.alpha_asm.specs.declared.patch.RelocationKind.{RelocationKind}
use Rattle.alpha_asm.specs.declared.patch.RelocationKind.TheVariants as kinds
use Rattle.alpha_link.specs.declared.relocation.Relocation.{Relocation}
use Rattle.alpha_link.specs.Symbols.{Named}
use Rattle.alpha_link.specs.Parts.{ModuleParts}

-- the labels that items define, and those that they name
abbrev pub labels_in : List Placed → List (List ℕ)
labels_in xs = filter_map (λ x. x.item.label) xs

abbrev pub references_in : List Placed → List (List ℕ)
references_in xs = map (λ n. n.reference.label) (flat_map names_in xs)

-- a name, with nothing at it
abbrev pub alone : List ℕ → List ℕ × Unit {0}
alone name = (name, tt)

-- names without repetition, rising byte by byte: the keys of a finite map
abbrev pub rising : List (List ℕ) → List (List ℕ)
rising names = finite.keys (finite.from_entries {R = slice_cmp nat_cmp} (map alone names))

-- all of them
unfoldable pub all_names : List LineStmt → List (List ℕ)
all_names is = rising (labels_in (layout is) ++ references_in (layout is))

-- the symbol of a label that is defined there, or nowhere
abbrev pub symbol_at_location : List ℕ → Option LabelLocation → Named
symbol_at_location name None = record { section = sections.Undefined; offset = 0; name = name }
symbol_at_location name (Some (spots.Code words)) = record { section = sections.Code; offset = 4 * words; name = name }
symbol_at_location name (Some (spots.Data segment offset)) =
    record { section = sections.Data; offset = offset; name = name }

abbrev pub symbols_of : List LineStmt → List Named
symbols_of is = map (λ name. symbol_at_location name (location_of (layout is) name)) (all_names is)

-- the number of a name among others
abbrev pub number_in : List (List ℕ) → List ℕ → Option ℕ
number_in names name = position (λ n. bytes_eq n name) names

-- what a link puts in for an address that is needed in the code, or in the data
abbrev pub kind_in : Section → Target → Option RelocationKind
kind_in sides.Code (by_insn by words) = Some (kinds.Insn by)
kind_in sides.Code by_cell = None
kind_in sides.Code by_entry = None
kind_in sides.Data (by_insn by words) = None
kind_in sides.Data by_cell = Some kinds.Quad
kind_in sides.Data by_entry = None

-- how many bytes of its section stand before what needs an address
abbrev pub offset_in : ℕ → Target → ℕ
offset_in at (by_insn by words) = 4 * words
offset_in at by_cell = at
offset_in at by_entry = 0

abbrev pub relocation_with : RelocationKind → ℕ → ℤ → ℕ → Relocation
relocation_with kind offset addend symbol = record { kind = kind; offset = offset; symbol = symbol; addend = addend }

-- the relocation of an address that a section needs, if it does
abbrev pub relocation_for : Section → List (List ℕ) → Fix → Option Relocation
relocation_for side names f =
    option_and_then (λ kind. option_map (relocation_with kind (offset_in f.at f.name.target) f.name.reference.offset)
    (number_in names f.name.reference.label))
    (kind_in side f.name.target)

-- those of the code in the order of lines, and then those of the data
abbrev pub relocations_of : List LineStmt → List Relocation
relocations_of is =
    filter_map (relocation_for sides.Code (all_names is)) (fixes 0 (layout is))
    ++ filter_map (relocation_for sides.Data (all_names is)) (fixes 0 (layout is))

-- The parts that the items of a source make. What an address is put into has displacement 0, or is eight zero bytes.
unfoldable pub module_of : List LineStmt → ModuleParts
module_of is = record {
  words = map encoded (flat_map (λ x. raw_insns x.item.statement) (layout is));
  bytes = flat_map raw_bytes (layout is);
  zeroed = (end is).last.zeroed;
  symbols = symbols_of is;
  relocations = relocations_of is;
}

-- the least field of an image that such sizes make bad: 3 by the code words, 4 by the data bytes, 5 by data and zeroed
-- bytes together
abbrev pub bad_field : ℕ → ℕ → ℕ → Option ℕ
bad_field words filled zeroed =
    first_of
    (field_unless (nat_le words 262144) 3
    ∷ field_unless (nat_le filled 16777216) 4
    ∷ field_unless (nat_le (filled + zeroed) 16777216) 5
    ∷ [])

-- parts whose sizes are not too great, or the refusal
abbrev pub module_within_limits : ModuleParts → Result ModuleParts AsmFault
module_within_limits m = unless (option_map ImageField (bad_field (length m.words) (length m.bytes) m.zeroed)) (Ok m)

-- the module that a source makes, or its first refusal
unfoldable pub made_module : List ℕ → Result ModuleParts AsmFault
made_module source =
    unless (first_refused source_kinds.Module [] (lines source))
    (module_within_limits (module_of (map item_at (lines source))))
