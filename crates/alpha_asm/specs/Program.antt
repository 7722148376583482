-- The program that items make: its instructions, its data bytes and its numbers, with the addresses of labels.
use Rattle.std.specs.Prelude.{ℕ, ℤ, pos, negsuc, neg_ℤ, ◌+ℤ◌, ◌-ℤ◌, ◌+◌, ◌-◌, ◌*◌, ◌/◌, ◌%◌, ◌^◌, Bool, true, ◌&&◌}
use Rattle.std.specs.Prelude.{◌==◌, nat_lt, nat_le, List, [], ◌∷◌, ◌++◌, drop, replicate, slice_get, Option, None, Some}
use Rattle.std.specs.Prelude.{is_some, is_none, if◌then◌else◌}
use Rattle.std.specs.Option.{unwrap_or, option_map, option_map_or, option_and_then}
use Rattle.std.specs.List.{flat_map, filter_map}
use Rattle.alpha_words.specs.declared.Level.{Level}
use Rattle.alpha_words.specs.Digits.{low_bytes}
use Rattle.alpha_table.specs.declared.form.Form.{Form}
use Rattle.alpha_table.specs.declared.form.Form.TheVariants.{Mem, Branch}
use Rattle.alpha_table.specs.Decoded.{decoded}
use Rattle.alpha_text.specs.Statements.{Stmt}
use Rattle.alpha_text.specs.Reading.{LineStmt}
use Rattle.alpha_image.specs.declared.segment.Segment.{Segment}
use Rattle.alpha_image.specs.declared.version.Version.{Version}
use Rattle.alpha_image.specs.declared.version.Version.TheVariants.{One, Two}
use Rattle.alpha_image.specs.Numbers.{Numbers}
use Rattle.alpha_image.specs.Parts.{Parts}
use Rattle.alpha_image.specs.Reading.{numbered_level}
use Rattle.alpha_asm.specs.declared.statement.RelocField.{RelocField}
use Rattle.alpha_asm.specs.declared.statement.RelocField.TheVariants as uses
use Rattle.alpha_asm.specs.declared.patch.Displacement.{Displacement}
use Rattle.alpha_asm.specs.declared.patch.Displacement.TheVariants.{Words, Bytes}
use Rattle.alpha_asm.specs.declared.place.LabelLocation.{LabelLocation}
use Rattle.alpha_asm.specs.declared.place.LabelLocation.TheVariants as spots
use Rattle.alpha_asm.specs.Statement.{Reference, InsnStmt, coded, Cell, number, address, cells, Entry, entry_at}
use Rattle.alpha_asm.specs.Statement.{entry_of, entry_in}
use Rattle.alpha_asm.specs.Layout.{Place, Placed, Fields, fields, filled_pad, layout, end, location_of}

-- A program: an image with instructions in place of their words.
pub record Program : Type 0 where
  pub version : Version
  pub level : Level
  pub code_base : ℕ
  pub entry : ℕ
  pub stack : ℕ
  pub segments : List Segment
  pub code : List Form
  pub bytes : List ℕ

-- the program of an image; each word of an image is in the instruction table
abbrev pub program_of : Parts → Program
program_of p = record {
  version = p.version;
  level = p.level;
  code_base = p.code_base;
  entry = p.entry;
  stack = p.stack;
  segments = p.segments;
  code = filter_map decoded p.words;
  bytes = p.bytes;
}

-- what the address of a label depends on
pub record Known : Type 0 where
  pub code_base : ℕ
  pub segments : List Segment
  pub locations : List ℕ → Option LabelLocation

-- the address of a place in the code or in a segment
abbrev pub location_address : Known → LabelLocation → ℕ
location_address k (spots.Code words) = k.code_base + 4 * words
location_address k (spots.Data segment offset) = option_map_or (λ s. s.base) (slice_get k.segments segment) 0 + offset

abbrev pub address_of : Known → Reference → ℤ
address_of k r = pos (option_map_or (location_address k) (k.locations r.label) 0) +ℤ r.offset

-- The displacement of a branch over a distance from the next instruction on: a multiple of 4, and a number of words of
-- 21 bits with its sign.
abbrev pub words_over : ℤ → Option Displacement
words_over (pos d) = if d % 4 == 0 && nat_lt d (2 ^ 22) then Some (Words (pos (d / 4))) else None
words_over (negsuc d) =
    if (d + 1) % 4 == 0 && nat_le (d + 1) (2 ^ 22) then Some (Words (neg_ℤ (pos ((d + 1) / 4)))) else None

-- the high half of an address, rounded
abbrev pub high_half : ℕ → ℕ
high_half a = (a + 32768) / 65536

-- the low half, with its sign
abbrev pub low_half : ℕ → ℤ
low_half a = pos a -ℤ pos (65536 * high_half a)

-- an address from 0 to 2 ^ 30, which has halves
abbrev pub halved : ℤ → Option ℕ
halved (pos a) = if nat_le a (2 ^ 30) then Some a else None
halved (negsuc a) = None

-- the displacement by which an instruction at pc reaches an address, if it does
abbrev pub reached : RelocField → ℕ → ℤ → Option Displacement
reached uses.Branch pc a = words_over (a -ℤ pos (pc + 4))
reached uses.High pc a = option_map (λ n. Bytes (pos (high_half n))) (halved a)
reached uses.Low pc a = option_map (λ n. Bytes (low_half n)) (halved a)

-- an instruction with another displacement
abbrev pub displaced : Form → Displacement → Form
displaced (Branch op ra old) (Words new) = Branch op ra new
displaced (Mem op ra rb old) (Bytes new) = Mem op ra rb new
displaced insn d = insn

-- the quadword of an address from 0 to 2 ^ 64 - 1
abbrev pub quadword_of : ℤ → Option ℕ
quadword_of (pos a) = if nat_lt a (2 ^ 64) then Some a else None
quadword_of (negsuc a) = None

-- what an address that a statement names is for
pub data Target : Type 0 where
  -- an instruction behind so many others, which is to reach it
  by_insn : (field : RelocField) (words : ℕ) → Target
  -- a quadword of data
  by_cell : Target
  -- the entry
  by_entry : Target

-- an address that a statement names
pub record Name : Type 0 where
  pub line : ℕ
  pub reference : Reference
  pub target : Target

abbrev pub name : ℕ → Reference → Target → Name
name line reference target = record { line = line; reference = reference; target = target }

abbrev pub list_of : {A : Type 0} → Option A → List A
list_of None = []
list_of (Some x) = x ∷ []

abbrev pub insn_name : ℕ → ℕ → InsnStmt → Option Name
insn_name line words c = option_map (λ r. name line r.1 (by_insn r.0 words)) c.reach

-- the address that the instruction of a statement is to reach, behind so many instructions
abbrev pub insn_names : ℕ → ℕ → Stmt → List Name
insn_names line words s = list_of (option_and_then (insn_name line words) (coded s))

abbrev pub cell_name : ℕ → Cell → Option Name
cell_name line (number bytes value) = None
cell_name line (address r) = Some (name line r by_cell)

abbrev pub entry_name : ℕ → Entry → Option Name
entry_name line (entry_at n) = None
entry_name line (entry_of r) = Some (name line r by_entry)

abbrev pub entry_names : ℕ → Stmt → List Name
entry_names line s = list_of (option_and_then (entry_name line) (entry_in s))

-- the addresses that a statement names
abbrev pub names_in : Placed → List Name
names_in x =
    insn_names x.line x.place.words x.item.statement
    ++ (filter_map (cell_name x.line) (cells x.item.statement) ++ entry_names x.line x.item.statement)

-- whether an address is what is needed
abbrev pub is_in_range : Known → ℤ → Target → Bool
is_in_range k a (by_insn by words) = is_some (reached by (k.code_base + 4 * words) a)
is_in_range k a by_cell = is_some (quadword_of a)
is_in_range k a by_entry = true

-- the line of an address whose label has no definition
abbrev pub undefined_line : Known → Name → Option ℕ
undefined_line k n = if is_none (k.locations n.reference.label) then Some n.line else None

-- the line of an address that doesn't fit
abbrev pub out_of_range_line : Known → Name → Option ℕ
out_of_range_line k n = if is_in_range k (address_of k n.reference) n.target then None else Some n.line

-- the instruction of a statement
abbrev pub insn_in : Known → Place → InsnStmt → Form
insn_in k p c =
    option_map_or
    (λ r. option_map_or (displaced c.insn) (reached r.0 (k.code_base + 4 * p.words) (address_of k r.1)) c.insn) c.reach
    c.insn

abbrev pub code_in : Known → Placed → List Form
code_in k x = option_map_or (λ c. insn_in k x.place c ∷ []) (coded x.item.statement) []

abbrev pub cell_bytes : Known → Cell → List ℕ
cell_bytes k (number bytes value) = low_bytes bytes value
cell_bytes k (address r) = low_bytes 8 (unwrap_or (quadword_of (address_of k r)) 0)

-- the data bytes of a statement
abbrev pub bytes_in : Known → Placed → List ℕ
bytes_in k x = flat_map (cell_bytes k) (cells x.item.statement) ++ replicate (filled_pad x.place x.item.statement) 0

-- a `.database` is the base of the segment of the first version
abbrev pub based : ℕ → List Segment → List Segment
based base [] = []
based base (s ∷ rest) = record s { base = base } ∷ rest

-- what an image has without a `.codebase`, a `.database` and a `.stack`
abbrev pub code_base : ℕ
code_base = 0x10000

abbrev pub data_base : ℕ
data_base = 0x10000000

abbrev pub stack_bytes : ℕ
stack_bytes = 65536

-- what it has by the statements, if they are there
abbrev pub code_base_of : Fields → ℕ
code_base_of f = unwrap_or f.code_base code_base

abbrev pub data_base_of : Fields → ℕ
data_base_of f = unwrap_or f.data_base data_base

abbrev pub stack_of : Fields → ℕ
stack_of f = unwrap_or f.stack stack_bytes

-- the segments, the one of the first version first
unfoldable pub segments_of : List LineStmt → List Segment
segments_of is = based (data_base_of (fields (layout is))) ((end is).earlier ++ (end is).last ∷ [])

unfoldable pub known : List LineStmt → Known
known is =
    record {
      code_base = code_base_of (fields (layout is));
      segments = segments_of is;
      locations = location_of (layout is);
    }

-- a `.level` makes an image of the second version, whose segments are those of its `.segment` statements
abbrev pub version_of : Option ℕ → Version
version_of None = One
version_of (Some n) = Two

abbrev pub own_segments : Option ℕ → List Segment → List Segment
own_segments None all = all
own_segments (Some n) all = drop 1 all

-- an entry outside 64 bits is no code word, as the last number of 64 bits is none
abbrev pub entry_number : Known → Entry → ℕ
entry_number k (entry_at n) = n
entry_number k (entry_of r) = unwrap_or (quadword_of (address_of k r)) (2 ^ 64 - 1)

-- the numbers of the image
abbrev pub numbers_of : List LineStmt → Entry → Numbers
numbers_of is entry = record {
  level = unwrap_or (end is).level 1;
  code_base = code_base_of (fields (layout is));
  entry = entry_number (known is) entry;
  words = (end is).words;
  stack = stack_of (fields (layout is));
  segments = own_segments (end is).level (segments_of is);
}

abbrev pub program_with : Version → Numbers → List Form → List ℕ → Program
program_with version n code bytes = record {
  version = version;
  level = numbered_level n.level;
  code_base = n.code_base;
  entry = n.entry;
  stack = n.stack;
  segments = n.segments;
  code = code;
  bytes = bytes;
}

-- the program of the items, with an entry
abbrev pub program : List LineStmt → Entry → Program
program is entry =
    program_with (version_of (end is).level) (numbers_of is entry)
    (flat_map (code_in (known is)) (layout is)) (flat_map (bytes_in (known is)) (layout is))
