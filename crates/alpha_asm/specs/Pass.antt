-- What the state of the pass is behind some lines.
use Rattle.std.specs.Prelude.{◌≡◌, ℕ, true, ◌+◌, ◌*◌, ◌^◌, ◌<◌, ◌≤◌, ◌||◌, false, List, [], ◌∷◌, ◌++◌, length, map, All}
use Rattle.std.specs.Prelude.{Option, None, Some, if◌then◌else◌}
use Rattle.std.specs.Option.{option_map, unwrap_or}
use Rattle.std.specs.List.{flat_map}
use Rattle.std.specs.Str.{bytes_eq}
use Rattle.alpha_words.specs.Levels.{level_number}
use Rattle.alpha_table.specs.declared.form.Form.{Form}
use Rattle.alpha_table.specs.Columns.{level_of}
use Rattle.alpha_text.specs.Reading.{LineStmt}
use Rattle.alpha_asm.specs.declared.kind.SourceKind.{SourceKind}
use Rattle.alpha_asm.specs.declared.fault.AsmFault.{AsmFault}
use Rattle.alpha_asm.specs.declared.fault.AsmFault.TheVariants as faults
use Rattle.alpha_image.specs.declared.segment.Segment.{Segment}
use Rattle.alpha_image.specs.Layout.{filled_size}
use Rattle.alpha_asm.specs.declared.place.Section.{Section}
use Rattle.alpha_asm.specs.declared.place.Section.TheVariants as sections
use Rattle.alpha_asm.specs.declared.place.LabelLocation.{LabelLocation}
use Rattle.alpha_asm.specs.declared.fields.FieldsRead.{FieldsRead}
use Rattle.alpha_asm.specs.declared.pass.Pass.{Pass}
use Rattle.alpha_asm.specs.Statement.{InsnStmt}
use Rattle.alpha_asm.specs.Program.{list_of, insn_name}
use Rattle.alpha_asm.specs.Layout.{Place, Placed, Fields, fields, layout, end, location, location_of, place_after}
use Rattle.alpha_asm.specs.Layout.{with_fields}
use Rattle.alpha_asm.specs.Layout.{is_misplaced_in, repeats_field, repeats_label}
use Rattle.alpha_asm.specs.Patches.{entry_view, fix, fix_of, raw_insns, raw_bytes, fixes, fixes_in}
use Rattle.alpha_asm.specs.Labels.{location_named}
use Rattle.alpha_asm.specs.Place.{place_of_code}

abbrev pub fields_read : FieldsRead → Fields
fields_read f = record {
  code_base = f.code_base;
  data_base = f.data_base;
  stack = f.stack;
  entry = option_map entry_view f.entry;
}

abbrev pub place_of : Pass → Place
place_of p = place_of_code (length p.output.code.items) p.place

-- where a label is defined
abbrev pub location_at : Pass → List ℕ → Option LabelLocation
location_at p name = location_named p.labels name

-- and where with a further label, if there is one
abbrev pub with_label : (List ℕ → Option LabelLocation) → Option (List ℕ) → LabelLocation → List ℕ
    → Option LabelLocation
with_label spots None here name = spots name
with_label spots (Some label) here name = if bytes_eq label name then Some here else spots name

-- the sizes are small
pub record IsBounded (p : Pass) : Type 0 where
  pub filled : p.place.last.filled ≤ length p.output.bytes.items
  pub size : length p.output.bytes.items < 2 ^ 63
  pub zeroed : p.place.last.zeroed ≤ 2 ^ 25 * p.line
  pub earlier : length p.place.earlier.items ≤ p.line
  pub code : length p.output.code.items ≤ p.line

-- the item as it stands here
abbrev pub here : Pass → LineStmt → Placed
here p i = record { place = place_of p; line = p.line + 1; item = i }

-- why an item of a source of this kind is refused here
abbrev pub refused_here : SourceKind → Pass → LineStmt → Option AsmFault
refused_here kind p i =
    if is_misplaced_in kind (place_of p) i.statement then Some (faults.Section (p.line + 1))
    else if repeats_field (fields_read p.fields) i.statement || repeats_label (location_at p) i.label
    then Some (faults.Duplicate (p.line + 1))
    else None

-- an instruction was added
pub record AddsInsn (c : InsnStmt) (old new : Pass) : Type 0 where
  pub line : new.line ≡ old.line + 1
  pub place : new.place ≡ record old.place { begun = true }
  pub code : new.output.code.items ≡ old.output.code.items ++ c.insn ∷ []
  pub bytes : new.output.bytes ≡ old.output.bytes
  pub patches : map fix_of new.output.patches.items
      ≡ map fix_of old.output.patches.items
      ++ map (fix 0) (list_of (insn_name (old.line + 1) (length old.output.code.items) c))
  pub fields : new.fields ≡ old.fields

-- a statement was added
pub record AddsStatement (i : LineStmt) (old new : Pass) : Type 0 where
  pub line : new.line ≡ old.line + 1
  pub place : place_of new ≡ place_after (place_of old) i.statement
  pub code : new.output.code.items ≡ old.output.code.items ++ raw_insns i.statement
  pub bytes : new.output.bytes.items ≡ old.output.bytes.items ++ raw_bytes (here old i)
  pub patches : map fix_of new.output.patches.items
      ≡ map fix_of old.output.patches.items ++ fixes_in (length old.output.bytes.items) (here old i)
  pub fields : fields_read new.fields ≡ with_fields (fields_read old.fields) i.statement

-- an item was added
pub record AddsItem (i : LineStmt) (old new : Pass) : Type 0 where
  pub labels : (name : List ℕ)
      → location_at new name ≡ with_label (location_at old) i.label (location (place_of old)) name
  pub statement : AddsStatement i old new

-- Where the data bytes are: in the one segment of the first version, or in the segments that `.segment` began.
abbrev pub Filled : Option ℕ → Section → List Segment → Segment → ℕ → Type 0
Filled None section earlier last size = (earlier ≡ []) × (last.filled ≡ size)
Filled (Some n) section [] last size = (section ≡ sections.Code) × (last.filled ≡ 0) × (size ≡ 0)
Filled (Some n) section (e ∷ es) last size = filled_size (es ++ last ∷ []) ≡ size

-- a place behind so many data bytes can come about
pub record Sound (p : Place) (size : ℕ) : Type 0 where
  pub filled : Filled p.level p.section p.earlier p.last size
  pub fresh : p.begun ≡ false → (p.level ≡ None) × (p.section ≡ sections.Code) × (size ≡ 0)

-- an instruction is there at the level of a `.level`, or at 1 without one
abbrev pub IsAtLevel : Option ℕ → Form → Type 0
IsAtLevel level i = level_number (level_of i) ≤ unwrap_or level 1

-- The instructions before a place are there at its level. Before the first statement there are none, so that a `.level`
-- finds none.
pub record Leveled (p : Place) (code : List Form) : Type 0 where
  pub insns : All (IsAtLevel p.level) code
  pub fresh : p.begun ≡ false → code ≡ []

-- the state is that behind the lines with these items
pub record PassSimulates (is : List LineStmt) (p : Pass) : Type 0 where
  pub line : p.line ≡ length is
  pub place : place_of p ≡ end is
  pub code : p.output.code.items ≡ flat_map (λ x. raw_insns x.item.statement) (layout is)
  pub bytes : p.output.bytes.items ≡ flat_map raw_bytes (layout is)
  pub patches : map fix_of p.output.patches.items ≡ fixes 0 (layout is)
  pub labels : (name : List ℕ) → location_at p name ≡ location_of (layout is) name
  pub fields : fields_read p.fields ≡ fields (layout is)
  pub sound : Sound (place_of p) (length p.output.bytes.items)
  pub leveled : Leveled (place_of p) p.output.code.items
