-- The image that modules link to, or why they link to none.
use Rattle.std.specs.Prelude.{ℕ, ℤ, pos, ◌+ℤ◌, ◌+◌, ◌-◌, ◌*◌, ◌/◌, ◌&&◌, ◌||◌, Bool, true, false, not, nat_lt, nat_le}
use Rattle.std.specs.Prelude.{List, [], ◌∷◌, ◌++◌, length, map, replicate, slice_get, slice_set, Option, None, Some}
use Rattle.std.specs.Prelude.{is_some, is_none, position, Result, Ok, Err, if◌then◌else◌}
use Rattle.std.specs.Option.{option_map, option_map_or, option_and_then, option_or}
use Rattle.std.specs.List.{flat_map, filter_map}
use Rattle.std.specs.Str.{bytes_eq}
use Rattle.alpha_table.specs.declared.form.Form.{Form}
use Rattle.alpha_table.specs.Decoded.{decoded}
use Rattle.alpha_image.specs.declared.version.Version.TheVariants.{One}
use Rattle.alpha_image.specs.Numbers.{Numbers}
use Rattle.alpha_image.specs.FieldTests.{least_bad_field}
use Rattle.alpha_asm.specs.declared.statement.RelocField.{RelocField}
use Rattle.alpha_asm.specs.declared.patch.Displacement.{Displacement}
use Rattle.alpha_asm.specs.Layout.{first, padding}
use Rattle.alpha_asm.specs.Program.{Program, program_with, code_base, data_base, stack_bytes, reached, displaced}
use Rattle.alpha_asm.specs.Program.{quadword_of}
use Rattle.alpha_asm.specs.Patches.{overlaid}
use Rattle.alpha_asm.specs.Unlinked.{takes}
use Rattle.alpha_link.specs.declared.fault.LinkFault.{LinkFault}
use Rattle.alpha_link.specs.declared.fault.LinkFault.TheVariants.{Duplicate, Undefined, Entry, ImageField, Reach}
use Rattle.alpha_link.specs.declared.symbol.SymbolSection.{SymbolSection}
use Rattle.alpha_link.specs.declared.symbol.SymbolSection.TheVariants as sections
use Rattle.alpha_asm.specs.declared.patch.RelocationKind.{RelocationKind}
use Rattle.alpha_asm.specs.declared.patch.RelocationKind.TheVariants as kinds
use Rattle.alpha_link.specs.declared.relocation.Relocation.{Relocation}
use Rattle.alpha_link.specs.Symbols.{Named}
use Rattle.alpha_link.specs.Parts.{ModuleParts}

-- a module by its number, with the code words and the bytes of the data segment that stand before it
pub record Located : Type 0 where
  pub number : ℕ
  pub words : ℕ
  pub filled : ℕ
  pub parts : ModuleParts

-- its data and zeroed bytes together
abbrev pub size : ModuleParts → ℕ
size m = length m.bytes + m.zeroed

-- how many of them stand before the next module, whose data begin at a multiple of 8,192
abbrev pub room : ModuleParts → ℕ
room m = size m + padding 13 (size m)

abbrev pub located : ℕ → ℕ → ℕ → List ModuleParts → List Located
located number words filled [] = []
located number words filled (m ∷ ms) =
    record { number = number; words = words; filled = filled; parts = m }
    ∷ located (number + 1) (words + length m.words) (filled + room m) ms

-- the modules in their order, the first one at both bases
abbrev pub places : List ModuleParts → List Located
places ms = located 0 0 0 ms

-- the address of an offset of a section, which an undefined symbol has none of
abbrev pub section_address : Located → SymbolSection → ℕ → Option ℕ
section_address l sections.Code offset = Some (code_base + 4 * l.words + offset)
section_address l sections.Data offset = Some (data_base + l.filled + offset)
section_address l sections.Undefined offset = None

-- the address of a name in the module that a symbol of it defines it in
abbrev pub named_address : Located → List ℕ → Named → Option ℕ
named_address l name s = if bytes_eq s.name name then section_address l s.section s.offset else None

abbrev pub address_in : List ℕ → Located → Option ℕ
address_in name l = first (named_address l name) l.parts.symbols

abbrev pub address_of : List Located → List ℕ → Option ℕ
address_of ls name = first (address_in name) ls

-- the addresses of a module's symbols, by those of names
abbrev pub addresses_by : (List ℕ → Option ℕ) → Located → List (Option ℕ)
addresses_by find l = map (λ s. find s.name) l.parts.symbols

abbrev pub addresses_of : List Located → Located → List (Option ℕ)
addresses_of ls l = addresses_by (address_of ls) l

-- the address that a relocation puts in, by those of the symbols: its symbol's, and its addend
abbrev pub relocation_target : List (Option ℕ) → Relocation → Option ℤ
relocation_target addresses r =
    option_map (λ a. pos a +ℤ r.addend) (option_and_then (λ address. address) (slice_get addresses r.symbol))

abbrev pub use_of : RelocationKind → Option RelocField
use_of (kinds.Insn by) = Some by
use_of kinds.Quad = None

-- the displacement that it puts in, if it reaches
abbrev pub displacement : List (Option ℕ) → Located → Relocation → Option Displacement
displacement addresses l r =
    option_and_then
    (λ by. option_and_then (reached by (code_base + 4 * l.words + r.offset)) (relocation_target addresses r))
    (use_of r.kind)

-- the quadword that it puts in, if it is one
abbrev pub quadword_at_kind : RelocationKind → Option ℤ → Option ℕ
quadword_at_kind kinds.Quad a = option_and_then quadword_of a
quadword_at_kind _ a = None

abbrev pub quadword : List (Option ℕ) → Relocation → Option ℕ
quadword addresses r = quadword_at_kind r.kind (relocation_target addresses r)

-- an instruction with another displacement, where the relocation is one of it
abbrev pub insn_with : RelocationKind → Displacement → Form → Form
insn_with (kinds.Insn by) d insn = if takes by insn then displaced insn d else insn
insn_with kinds.Quad d insn = insn

-- the code with a displacement put in at a place
abbrev pub code_at : RelocationKind → ℕ → Option Displacement → List Form → List Form
code_at kind place None code = code
code_at kind place (Some d) code =
    option_map_or (λ insn. slice_set code place (insn_with kind d insn)) (slice_get code place) code

abbrev pub code_after : List (Option ℕ) → Located → List Relocation → List Form → List Form
code_after addresses l [] code = code
code_after addresses l (r ∷ rs) code =
    code_after addresses l rs (code_at r.kind (r.offset / 4) (displacement addresses l r) code)

-- the code of a module with all addresses put in
abbrev pub code_of : List Located → Located → List Form
code_of ls l = code_after (addresses_of ls l) l l.parts.relocations (filter_map decoded l.parts.words)

abbrev pub bytes_after : List (Option ℕ) → List Relocation → List ℕ → List ℕ
bytes_after addresses [] bytes = bytes
bytes_after addresses (r ∷ rs) bytes =
    bytes_after addresses rs (option_map_or (λ n. overlaid r.offset n bytes) (quadword addresses r) bytes)

-- its data bytes with all addresses put in
abbrev pub bytes_of : List Located → Located → List ℕ
bytes_of ls l = bytes_after (addresses_of ls l) l.parts.relocations l.parts.bytes

-- The data bytes of the image: of each module but the last its data, and as zero bytes its zeroed ones and what is
-- missing to a multiple of 8,192; and the data of the last.
abbrev pub data_in : List Located → List Located → List ℕ
data_in ls [] = []
data_in ls (l ∷ []) = bytes_of ls l
data_in ls (l ∷ next ∷ rest) =
    bytes_of ls l ++ (replicate (l.parts.zeroed + padding 13 (size l.parts)) 0 ++ data_in ls (next ∷ rest))

-- how many words, data bytes and zeroed bytes the image has, by the last module
abbrev pub last_of : List Located → Option Located
last_of ls = slice_get ls (length ls - 1)

abbrev pub words_in : List Located → ℕ
words_in ls = option_map_or (λ l. l.words + length l.parts.words) (last_of ls) 0

abbrev pub filled_in : List Located → ℕ
filled_in ls = option_map_or (λ l. l.filled + length l.parts.bytes) (last_of ls) 0

abbrev pub zeroed_in : List Located → ℕ
zeroed_in ls = option_map_or (λ l. l.parts.zeroed) (last_of ls) 0

abbrev pub numbers_with : List Located → ℕ → Numbers
numbers_with ls entry = record {
  level = 1;
  code_base = code_base;
  entry = entry;
  words = words_in ls;
  stack = stack_bytes;
  segments = record { base = data_base; filled = filled_in ls; zeroed = zeroed_in ls } ∷ [];
}

-- the least symbol that passes a test, with its module
abbrev pub symbol_in : (Located → Named → Bool) → Located → Option (ℕ × ℕ)
symbol_in test l = option_map (λ n. (l.number, n)) (position (test l) l.parts.symbols)

abbrev pub is_defined : SymbolSection → Bool
is_defined sections.Code = true
is_defined sections.Data = true
is_defined sections.Undefined = false

-- the least symbol that an earlier module defines too
abbrev pub repeated : List Located → List Located → Option (ℕ × ℕ)
repeated earlier [] = None
repeated earlier (l ∷ ls) =
    option_or (symbol_in (λ _ s. is_defined s.section && is_some (address_of earlier s.name)) l)
    (repeated (earlier ++ l ∷ []) ls)

-- the least symbol that no module defines
abbrev pub first_unresolved : List Located → Option (ℕ × ℕ)
first_unresolved ls = first (symbol_in (λ _ s. is_none (address_of ls s.name))) ls

-- whether what a relocation needs is there
abbrev pub is_in_range : List (Option ℕ) → Located → Relocation → Bool
is_in_range addresses l r = is_some (displacement addresses l r) || is_some (quadword addresses r)

-- the least relocation of a module that doesn't fit, with the module
abbrev pub out_of_range_in : List (Option ℕ) → Located → Option (ℕ × ℕ)
out_of_range_in addresses l =
    option_map (λ n. (l.number, n)) (position (λ r. not (is_in_range addresses l r)) l.parts.relocations)

-- the least relocation that doesn't fit
abbrev pub out_of_range : List Located → Option (ℕ × ℕ)
out_of_range ls = first (λ l. out_of_range_in (addresses_of ls l) l) ls

-- the address of an entry, which is that of a code word
abbrev pub entry_of : List Located → List ℕ → Option ℕ
entry_of ls name =
    option_and_then (λ a. if nat_le code_base a && nat_lt a (code_base + 4 * words_in ls) then Some a else None)
    (address_of ls name)

-- the refusal if there is one
abbrev pub unless_refused : Option LinkFault → Result Program LinkFault → Result Program LinkFault
unless_refused None r = r
unless_refused (Some fault) r = Err fault

abbrev pub linked_at : List Located → Option ℕ → Result Program LinkFault
linked_at ls None = Err Entry
linked_at ls (Some entry) =
    unless_refused (option_map ImageField (least_bad_field (numbers_with ls entry)))
    (unless_refused (option_map (λ p. Reach p.0 p.1) (out_of_range ls))
    (Ok (program_with One (numbers_with ls entry) (flat_map (code_of ls) ls) (data_in ls ls))))

-- the program of the image that modules link to, with a name as its entry, or the first refusal
unfoldable pub linked : List ModuleParts → List ℕ → Result Program LinkFault
linked ms entry =
    let ls = places ms in
    unless_refused (option_map (λ p. Duplicate p.0 p.1) (repeated [] ls))
    (unless_refused (option_map (λ p. Undefined p.0 p.1) (first_unresolved ls)) (linked_at ls (entry_of ls entry)))
