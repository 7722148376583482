-- Where each item of a source stands: its section, and how much of the section stands before it.
use Rattle.std.specs.Prelude.{ℕ, ◌+◌, ◌-◌, ◌%◌, ◌^◌, Bool, true, false, not, ◌&&◌, ◌||◌, List, [], ◌∷◌, ◌++◌, length}
use Rattle.std.specs.Prelude.{Option, None, Some, is_some, is_none, nat_lt, ◌==◌, if◌then◌else◌}
use Rattle.std.specs.Option.{unwrap_or, option_or, option_map_or}
use Rattle.std.specs.Str.{bytes_eq}
use Rattle.alpha_words.specs.Levels.{level_number}
use Rattle.alpha_table.specs.declared.form.Form.{Form}
use Rattle.alpha_table.specs.Columns.{level_of}
use Rattle.alpha_text.specs.Statements.{Stmt}
use Rattle.alpha_text.specs.Statements as says
use Rattle.alpha_text.specs.Reading.{LineStmt}
use Rattle.alpha_image.specs.declared.segment.Segment.{Segment}
use Rattle.alpha_image.specs.Rules.{size_of_segment}
use Rattle.alpha_asm.specs.declared.kind.SourceKind.{SourceKind}
use Rattle.alpha_asm.specs.declared.kind.SourceKind.TheVariants as source_kinds
use Rattle.alpha_asm.specs.declared.place.Section.{Section}
use Rattle.alpha_asm.specs.declared.place.Section.TheVariants as sections
use Rattle.alpha_asm.specs.declared.place.LabelLocation.{LabelLocation}
use Rattle.alpha_asm.specs.declared.place.LabelLocation.TheVariants as spots
use Rattle.alpha_asm.specs.declared.statement.RelocField.TheVariants.{High, Low}
use Rattle.alpha_asm.specs.Statement.{applies_to, coded, data_size, section_in, level_in, segment_in, zero_bytes_in}
use Rattle.alpha_asm.specs.Statement.{align_in, is_statement, code_base_in, data_base_in, stack_in, Entry, entry_in}

-- The place of an item: what the items before it have made.
pub record Place : Type 0 where
  -- of a `.level`, if one stood
  pub level : Option ℕ
  -- a statement stood
  pub begun : Bool
  pub section : Section
  -- how many instructions
  pub words : ℕ
  -- The segment in hand, and those before it. The first one is that of the first version of images; each `.segment`
  -- begins a further one.
  pub earlier : List Segment
  pub last : Segment
  -- a `.zero` stood in the segment in hand
  pub has_zero : Bool

abbrev pub fresh : ℕ → Segment
fresh base = record { base = base; filled = 0; zeroed = 0 }

abbrev pub start : Place
start = record {
  level = None;
  begun = false;
  section = sections.Code;
  words = 0;
  earlier = [];
  last = fresh 0;
  has_zero = false;
}

-- how many bytes are missing to a multiple of 2 ^ n
abbrev pub padding : ℕ → ℕ → ℕ
padding n size = (2 ^ n - size % 2 ^ n) % 2 ^ n

-- the zero bytes of an `.align`
abbrev pub pad : Place → Stmt → ℕ
pad p s = option_map_or (λ n. padding n (size_of_segment p.last)) (align_in s) 0

-- they are data bytes, or zeroed bytes once a `.zero` stood
abbrev pub filled_pad : Place → Stmt → ℕ
filled_pad p s = if p.has_zero then 0 else pad p s

abbrev pub zeroed_pad : Place → Stmt → ℕ
zeroed_pad p s = if p.has_zero then pad p s else 0

-- the segment in hand with what a statement adds to it
abbrev pub grown : Place → Stmt → Segment
grown p s = record {
  base = p.last.base;
  filled = p.last.filled + (data_size s + filled_pad p s);
  zeroed = p.last.zeroed + (unwrap_or (zero_bytes_in s) 0 + zeroed_pad p s);
}

abbrev pub earlier_behind : Place → Stmt → List Segment
earlier_behind p s = option_map_or (λ base. p.earlier ++ p.last ∷ []) (segment_in s) p.earlier

abbrev pub last_behind : Place → Stmt → Segment
last_behind p s = option_map_or fresh (segment_in s) (grown p s)

-- the place behind a statement
abbrev pub place_after : Place → Stmt → Place
place_after p s = record {
  level = option_or (level_in s) p.level;
  begun = p.begun || is_statement s;
  section = unwrap_or (section_in s) p.section;
  words = p.words + (if is_some (coded s) then 1 else 0);
  earlier = earlier_behind p s;
  last = last_behind p s;
  has_zero = is_none (segment_in s) && (p.has_zero || is_some (zero_bytes_in s));
}

-- an item where it stands; lines are numbered from 1
pub record Placed : Type 0 where
  pub place : Place
  pub line : ℕ
  pub item : LineStmt

-- the items from a place and a line on
abbrev pub placed : Place → ℕ → List LineStmt → List Placed
placed p line [] = []
placed p line (i ∷ is) = record { place = p; line = line; item = i } ∷ placed (place_after p i.statement) (line + 1) is

-- the items of a source, one a line
unfoldable pub layout : List LineStmt → List Placed
layout is = placed start 1 is

abbrev pub behind_all : Place → List LineStmt → Place
behind_all p [] = p
behind_all p (i ∷ is) = behind_all (place_after p i.statement) is

-- the place behind the last item
unfoldable pub end : List LineStmt → Place
end is = behind_all start is

-- the address that a label names: a word of the code, or an offset in a segment, which are numbered from 0
abbrev pub location_in : Section → Place → LabelLocation
location_in sections.Code p = spots.Code p.words
location_in sections.Data p = spots.Data (length p.earlier) (size_of_segment p.last)

abbrev pub location : Place → LabelLocation
location p = location_in p.section p

-- the first that is there
abbrev pub first : {A B : Type 0} → (A → Option B) → List A → Option B
first f [] = None
first f (x ∷ xs) = option_or (f x) (first f xs)

abbrev pub has_label : List ℕ → Option (List ℕ) → Bool
has_label name None = false
has_label name (Some label) = bytes_eq label name

-- where a label is defined
abbrev pub defined_at : List ℕ → Placed → Option LabelLocation
defined_at name x = if has_label name x.item.label then Some (location x.place) else None

abbrev pub location_of : List Placed → List ℕ → Option LabelLocation
location_of xs name = first (defined_at name) xs

-- whether that is a word of the code
abbrev pub is_of_code : Option LabelLocation → Bool
is_of_code None = false
is_of_code (Some (spots.Code words)) = true
is_of_code (Some (spots.Data segment offset)) = false

-- the field statements
pub record Fields : Type 0 where
  pub code_base : Option ℕ
  pub data_base : Option ℕ
  pub stack : Option ℕ
  pub entry : Option Entry

abbrev pub field : {A : Type 0} → (Stmt → Option A) → List Placed → Option A
field value_in xs = first (λ x. value_in x.item.statement) xs

abbrev pub fields : List Placed → Fields
fields xs = record {
  code_base = field code_base_in xs;
  data_base = field data_base_in xs;
  stack = field stack_in xs;
  entry = field entry_in xs;
}

abbrev pub is_data : Section → Bool
is_data sections.Code = false
is_data sections.Data = true

-- an instruction stands in data, or is above the level of a `.level` before it, or 1 without one
abbrev pub is_misplaced_insn : Place → Form → Bool
is_misplaced_insn p insn = is_data p.section || nat_lt (unwrap_or p.level 1) (level_number (level_of insn))

-- a statement stands where its section or its level doesn't take it
abbrev pub is_misplaced : Place → Stmt → Bool
is_misplaced p says.empty = false
is_misplaced p (says.code insn) = is_misplaced_insn p insn
is_misplaced p (says.target insn label offset) = is_misplaced_insn p insn
is_misplaced p (says.high insn label offset) = is_misplaced_insn p insn
is_misplaced p (says.low insn label offset) = is_misplaced_insn p insn
is_misplaced p (says.level n) = p.begun
is_misplaced p (says.segment base) = is_none p.level
is_misplaced p (says.code_base n) = false
is_misplaced p (says.data_base n) = is_some p.level
is_misplaced p (says.stack n) = false
is_misplaced p (says.entry_at n) = false
is_misplaced p (says.entry_label label offset) = false
is_misplaced p says.code_section = false
is_misplaced p says.data_section = is_some p.level && length p.earlier == 0
is_misplaced p (says.zero n) = not (is_data p.section)
is_misplaced p (says.align n) = not (is_data p.section)
is_misplaced p (says.values bytes list) = not (is_data p.section) || p.has_zero
is_misplaced p (says.text text) = not (is_data p.section) || p.has_zero

-- A statement that a module may have: none of the fields, levels and segments of the image, which a link gives, and
-- half of an address in an LDAH or LDA alone.
abbrev pub is_allowed_in_module : Stmt → Bool
is_allowed_in_module says.empty = true
is_allowed_in_module (says.code insn) = true
is_allowed_in_module (says.target insn label offset) = true
is_allowed_in_module (says.high insn label offset) = applies_to High insn
is_allowed_in_module (says.low insn label offset) = applies_to Low insn
is_allowed_in_module (says.level n) = false
is_allowed_in_module (says.segment base) = false
is_allowed_in_module (says.code_base n) = false
is_allowed_in_module (says.data_base n) = false
is_allowed_in_module (says.stack n) = false
is_allowed_in_module (says.entry_at n) = false
is_allowed_in_module (says.entry_label label offset) = false
is_allowed_in_module says.code_section = true
is_allowed_in_module says.data_section = true
is_allowed_in_module (says.zero n) = true
is_allowed_in_module (says.align n) = true
is_allowed_in_module (says.values bytes list) = true
is_allowed_in_module (says.text text) = true

-- a statement that a source of this kind may have nowhere
abbrev pub is_barred : SourceKind → Stmt → Bool
is_barred source_kinds.Program s = false
is_barred source_kinds.Module s = not (is_allowed_in_module s)

-- a statement stands where a source of this kind doesn't take it
abbrev pub is_misplaced_in : SourceKind → Place → Stmt → Bool
is_misplaced_in kind p s = is_barred kind s || is_misplaced p s

-- the field statements with those of a further statement
abbrev pub with_fields : Fields → Stmt → Fields
with_fields f s = record {
  code_base = option_or f.code_base (code_base_in s);
  data_base = option_or f.data_base (data_base_in s);
  stack = option_or f.stack (stack_in s);
  entry = option_or f.entry (entry_in s);
}

-- a field statement for the second time
abbrev pub repeats_field : Fields → Stmt → Bool
repeats_field f (says.code_base n) = is_some f.code_base
repeats_field f (says.data_base n) = is_some f.data_base
repeats_field f (says.stack n) = is_some f.stack
repeats_field f (says.entry_at n) = is_some f.entry
repeats_field f (says.entry_label label offset) = is_some f.entry
repeats_field f _ = false

-- a label for the second time
abbrev pub repeats_label : (List ℕ → Option LabelLocation) → Option (List ℕ) → Bool
repeats_label spots None = false
repeats_label spots (Some label) = is_some (spots label)
