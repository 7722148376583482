-- Lines that fix where words of the code stand: a word before them would make them name another one, or none.
use Rattle.std.specs.Prelude.{ℕ, ◌+◌, ◌==◌, ◌&&◌, ◌||◌, Bool, false, not, List, [], ◌∷◌, ◌++◌, map, Option, None, Some}
use Rattle.std.specs.Prelude.{if◌then◌else◌}
use Rattle.std.specs.Option.{option_map, option_and_then}
use Rattle.std.specs.List.{list_any, filter_map}
use Rattle.std.specs.Str.Lines.{lines}
use Rattle.alpha_text.specs.Statements.{Stmt}
use Rattle.alpha_text.specs.Statements as says
use Rattle.alpha_text.specs.Reading.{LineStmt}
use Rattle.alpha_asm.specs.declared.statement.RelocField.TheVariants.{Branch}
use Rattle.alpha_asm.specs.Statement.{applies_to, half_applies, is_zero, Reference, coded, Cell, number, address, cells}
use Rattle.alpha_asm.specs.Statement.{Entry, entry_at, entry_of, entry_in}
use Rattle.alpha_asm.specs.Layout.{layout, fields, location_of, is_of_code}
use Rattle.alpha_asm.specs.Program.{list_of, code_base_of}
use Rattle.alpha_asm.specs.Assembled.{item_at}

-- the items of a source's lines
abbrev pub items_of : List ℕ → List LineStmt
items_of source = map item_at (lines source)

-- A branch over a distance, `.+N` or `.-N`: where a branch names a label, the statement is another one.
abbrev pub is_over_distance : Stmt → Bool
is_over_distance (says.code insn) = applies_to Branch insn
is_over_distance _ = false

-- half of the address of a label that names code, in another instruction than LDA or LDAH
abbrev pub takes_half : (List ℕ → Bool) → Stmt → Bool
takes_half of_code (says.high insn label offset) = of_code label && not (half_applies insn)
takes_half of_code (says.low insn label offset) = of_code label && not (half_applies insn)
takes_half of_code _ = false

-- an entry at an address that isn't the code base
abbrev pub enters_within : ℕ → Stmt → Bool
enters_within base (says.entry_at n) = not (n == base)
enters_within base _ = false

abbrev pub cell_reference : Cell → Option Reference
cell_reference (number bytes value) = None
cell_reference (address reference) = Some reference

abbrev pub entry_reference : Entry → Option Reference
entry_reference (entry_at n) = None
entry_reference (entry_of reference) = Some reference

-- the addresses of labels that a statement names
abbrev pub references : Stmt → List Reference
references s =
    list_of (option_and_then (λ c. option_map (λ r. r.1) c.reach) (coded s))
    ++ (filter_map cell_reference (cells s) ++ list_of (option_and_then entry_reference (entry_in s)))

-- an address some way off a label that names code
abbrev pub has_offset : (List ℕ → Bool) → Reference → Bool
has_offset of_code r = of_code r.label && not (is_zero r.offset)

-- whether a statement fixes where words stand, by which labels name code and by the code base
abbrev pub depends_on_position : (List ℕ → Bool) → ℕ → Stmt → Bool
depends_on_position of_code base s =
    is_over_distance s
    || (list_any (has_offset of_code) (references s) || (takes_half of_code s || enters_within base s))

-- the number of the first line whose statement passes a test, numbered from n on
abbrev pub least_line : (Stmt → Bool) → ℕ → List LineStmt → Option ℕ
least_line test n [] = None
least_line test n (i ∷ is) = if test i.statement then Some n else least_line test (n + 1) is

-- whether a label of a source names code
abbrev pub names_code : List LineStmt → List ℕ → Bool
names_code is label = is_of_code (location_of (layout is) label)

abbrev pub code_base : List LineStmt → ℕ
code_base is = code_base_of (fields (layout is))

-- the first fixed line of a source; lines are numbered from 1
unfoldable pub fixed_line : List ℕ → Option ℕ
fixed_line source =
    least_line (depends_on_position (names_code (items_of source)) (code_base (items_of source))) 1 (items_of source)
