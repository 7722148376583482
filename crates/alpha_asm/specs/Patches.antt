-- The addresses that are put in behind the last line, as the pass has them.
use Rattle.std.specs.Prelude.{⊤, ◌≡◌, ℕ, ℤ, pos, neg_ℤ, ◌≤ℤ◌, ◌^◌, ◌+◌, nat_le, List, [], ◌∷◌, ◌++◌, length, map, take}
use Rattle.std.specs.Prelude.{drop, replicate, ◌*◌, slice_get, slice_set, Option, None, Some, if◌then◌else◌}
use Rattle.std.specs.Option.{option_map, option_map_or}
use Rattle.std.specs.List.{flat_map}
use Rattle.alpha_words.specs.Digits.{low_bytes}
use Rattle.alpha_table.specs.declared.form.Form.{Form}
use Rattle.alpha_table.specs.Row.{IsSigned}
use Rattle.alpha_operands.specs.declared.values.Expr.{Expr}
use Rattle.alpha_text.specs.Reading.{LineStmt}
use Rattle.alpha_text.specs.Statements.{Stmt}
use Rattle.alpha_asm.specs.declared.statement.InsnStmt.{InsnStmt as CodedHere}
use Rattle.alpha_asm.specs.declared.fields.Entry.{Entry as EntryHere}
use Rattle.alpha_asm.specs.declared.fields.Entry.TheVariants as entries
use Rattle.alpha_asm.specs.declared.patch.Target.{Target as NeedHere}
use Rattle.alpha_asm.specs.declared.patch.Target.TheVariants as needs
use Rattle.alpha_asm.specs.declared.patch.RelocationKind.TheVariants as kinds
use Rattle.alpha_asm.specs.declared.patch.Patch.{Patch}
use Rattle.alpha_asm.specs.declared.patch.Displacement.{Displacement}
use Rattle.alpha_asm.specs.declared.patch.Displacement.TheVariants.{Words, Bytes}
use Rattle.alpha_asm.specs.declared.output.Output.{Output}
use Rattle.alpha_asm.specs.Statement.{Reference, InsnStmt, coded, Cell, number, address, cells, data_size, Entry}
use Rattle.alpha_asm.specs.Statement.{entry_at, entry_of}
use Rattle.alpha_asm.specs.Layout.{Placed, filled_pad}
use Rattle.alpha_asm.specs.Program.{Known, Target, by_insn, by_cell, by_entry, Name, name, insn_names, entry_names}
use Rattle.alpha_asm.specs.Program.{address_of, reached, displaced, quadword_of}

abbrev pub reference_of : Expr → Reference
reference_of e = record { label = e.label.now; offset = e.offset }

abbrev pub coded_of : CodedHere → InsnStmt
coded_of c = record { insn = c.insn; reach = option_map (λ r. (r.0, reference_of r.1)) c.reach }

abbrev pub entry_view : EntryHere → Entry
entry_view (entries.At n) = entry_at n
entry_view (entries.Of to) = entry_of (reference_of to)

-- an address to be put in, and behind how many data bytes, where it is one of a quadword
pub record Fix : Type 0 where
  pub name : Name
  pub at : ℕ

abbrev pub fix : ℕ → Name → Fix
fix at n = record { name = n; at = at }

-- behind so many instructions or data bytes
abbrev pub target_of : ℕ → NeedHere → Target
target_of at (needs.Put (kinds.Insn by)) = by_insn by at
target_of at (needs.Put kinds.Quad) = by_cell
target_of at needs.Entry = by_entry

abbrev pub offset_of : ℕ → NeedHere → ℕ
offset_of at (needs.Put (kinds.Insn by)) = 0
offset_of at (needs.Put kinds.Quad) = at
offset_of at needs.Entry = 0

abbrev pub fix_of : Patch → Fix
fix_of p = fix (offset_of p.at p.target) (name p.line (reference_of p.to) (target_of p.at p.target))

-- the instruction of a statement, and its data bytes, before addresses are put in
abbrev pub raw_insns : Stmt → List Form
raw_insns s = option_map_or (λ c. c.insn ∷ []) (coded s) []

-- those of items
abbrev pub insns_of : List LineStmt → List Form
insns_of is = flat_map (λ i. raw_insns i.statement) is

abbrev pub raw_cell : Cell → List ℕ
raw_cell (number bytes value) = low_bytes bytes value
raw_cell (address reference) = low_bytes 8 0

abbrev pub raw_cells : List Cell → List ℕ
raw_cells cs = flat_map raw_cell cs

abbrev pub raw_bytes : Placed → List ℕ
raw_bytes x = raw_cells (cells x.item.statement) ++ replicate (filled_pad x.place x.item.statement) 0

-- the addresses among values of data, which begin behind so many data bytes
abbrev pub cell_fixes : ℕ → ℕ → List Cell → List Fix
cell_fixes line at [] = []
cell_fixes line at (number bytes value ∷ cs) = cell_fixes line (at + bytes) cs
cell_fixes line at (address reference ∷ cs) = fix at (name line reference by_cell) ∷ cell_fixes line (at + 8) cs

-- the addresses of a statement that stands behind so many data bytes
abbrev pub fixes_in : ℕ → Placed → List Fix
fixes_in at x =
    map (fix 0) (insn_names x.line x.place.words x.item.statement)
    ++ (cell_fixes x.line at (cells x.item.statement) ++ map (fix 0) (entry_names x.line x.item.statement))

abbrev pub fixes : ℕ → List Placed → List Fix
fixes at [] = []
fixes at (x ∷ xs) = fixes_in at x ++ fixes (at + (data_size x.item.statement + filled_pad x.place x.item.statement)) xs

-- the code with another displacement of the instruction at a place, if there is one
abbrev pub code_at : Option Displacement → ℕ → List Form → List Form
code_at None place code = code
code_at (Some d) place code =
    option_map_or (λ insn. slice_set code place (displaced insn d)) (slice_get code place) code

-- The code with an address put in. One that doesn't fit changes nothing.
abbrev pub code_with : Known → ℤ → Target → List Form → List Form
code_with k a (by_insn by words) code = code_at (reached by (k.code_base + 4 * words) a) words code
code_with k a by_cell code = code
code_with k a by_entry code = code

-- the data bytes with a quadword in place of others
abbrev pub overlaid : ℕ → ℕ → List ℕ → List ℕ
overlaid at n bytes =
    if nat_le (at + 8) (length bytes) then take at bytes ++ (low_bytes 8 n ++ drop (at + 8) bytes) else bytes

-- the data bytes with an address put in
abbrev pub bytes_with : Known → ℕ → ℤ → Target → List ℕ → List ℕ
bytes_with k at a (by_insn by words) bytes = bytes
bytes_with k at a by_cell bytes = option_map_or (λ n. overlaid at n bytes) (quadword_of a) bytes
bytes_with k at a by_entry bytes = bytes

-- code and data bytes with all addresses put in, one after the other
abbrev pub code_after : Known → List Fix → List Form → List Form
code_after k [] code = code
code_after k (f ∷ fs) code = code_after k fs (code_with k (address_of k f.name.reference) f.name.target code)

abbrev pub bytes_after : Known → List Fix → List ℕ → List ℕ
bytes_after k [] bytes = bytes
bytes_after k (f ∷ fs) bytes = bytes_after k fs (bytes_with k f.at (address_of k f.name.reference) f.name.target bytes)

-- a displacement is within its field
abbrev pub IsField : Displacement → Type 0
IsField (Words n) = IsSigned 20 n
IsField (Bytes n) = ⊤

-- an address is not so far off that a distance from it wraps
pub record IsNear (address : ℤ) : Type 0 where
  pub low : neg_ℤ (pos (2 ^ 70)) ≤ℤ address
  pub high : address ≤ℤ pos (2 ^ 70)

abbrev pub names_of : List Patch → List Name
names_of patches = map (λ p. (fix_of p).name) patches

-- values of data were added to an output
pub record AddsCells (line : ℕ) (cs : List Cell) (old new : Output) : Type 0 where
  pub code : new.code.items ≡ old.code.items
  pub bytes : new.bytes.items ≡ old.bytes.items ++ raw_cells cs
  pub patches : map fix_of new.patches.items
      ≡ map fix_of old.patches.items ++ cell_fixes line (length old.bytes.items) cs
