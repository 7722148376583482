-- What the source of a module makes before any address is put in.
use Rattle.std.specs.Prelude.{⊤, ◌≡◌, ◌≤◌, ℕ, Bool, false, IsTrue, ◌&&◌, List, length, map, None, IfSome}
use Rattle.std.specs.List.{flat_map, AllByRecursion}
use Rattle.alpha_table.specs.declared.form.Form.{Form}
use Rattle.alpha_table.specs.declared.form.Form.TheVariants.{Mem, Branch}
use Rattle.alpha_text.specs.References.{IsLabel, IsReference}
use Rattle.alpha_text.specs.Reading.{LineStmt}
use Rattle.alpha_asm.specs.declared.statement.RelocField.{RelocField}
use Rattle.alpha_asm.specs.declared.unlinked.Unlinked.{Unlinked}
use Rattle.alpha_asm.specs.Statement.{applies_to, is_zero, Reference, InsnStmt, coded, Cell, number, address, cells}
use Rattle.alpha_asm.specs.Statement.{level_in, segment_in, entry_in}
use Rattle.alpha_asm.specs.Layout.{layout, end, location_of}
use Rattle.alpha_asm.specs.Patches.{fix_of, raw_insns, raw_bytes, fixes}
use Rattle.alpha_asm.specs.Labels.{location_named}

-- it is that of these items
pub record IsUnlinkedOf (is : List LineStmt) (u : Unlinked) : Type 0 where
  pub code : u.code.items ≡ flat_map (λ x. raw_insns x.item.statement) (layout is)
  pub filled : u.filled ≡ length (flat_map raw_bytes (layout is))
  -- where there are more of them than an image may have some may be missing
  pub bytes : u.filled ≤ 16777216 → u.bytes.items ≡ flat_map raw_bytes (layout is)
  pub zeroed : u.zeroed ≡ (end is).last.zeroed
  pub labels : (name : List ℕ) → location_named u.labels name ≡ location_of (layout is) name
  pub patches : map fix_of u.patches.items ≡ fixes 0 (layout is)

-- the address of a label of at most 1,024 bytes
abbrev pub IsAddress : Reference → Type 0
IsAddress r = IsReference 1024 r.label r.offset

-- an instruction with displacement 0
abbrev pub is_undisplaced : Form → Bool
is_undisplaced (Branch op ra disp) = is_zero disp
is_undisplaced (Mem op ra rb disp) = is_zero disp
is_undisplaced insn = false

-- an instruction that an address is put into, with displacement 0 until then
abbrev pub takes : RelocField → Form → Bool
takes field insn = applies_to field insn && is_undisplaced insn

abbrev pub IsReached : InsnStmt → Type 0
IsReached c = IfSome c.reach (λ r. IsTrue (takes r.0 c.insn) × IsAddress r.1)

abbrev pub IsCell : Cell → Type 0
IsCell (number bytes value) = ⊤
IsCell (address r) = IsAddress r

-- What a line of a module's source says. Its label and those that it names are whole, an address goes into an
-- instruction that takes it, and there is neither an entry nor a level nor a further segment.
pub record IsUnlinked (i : LineStmt) : Type 0 where
  pub label : IfSome i.label (IsLabel 1024)
  pub insn : IfSome (coded i.statement) IsReached
  pub cells : AllByRecursion IsCell (cells i.statement)
  pub entry : entry_in i.statement ≡ None
  pub level : level_in i.statement ≡ None
  pub segment : segment_in i.statement ≡ None
