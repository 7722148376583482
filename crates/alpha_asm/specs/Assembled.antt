-- The program that a source defines, or its first refusal.
use Rattle.std.specs.Prelude.{ℕ, ◌+◌, ◌||◌, nat_lt, List, [], ◌∷◌, ◌++◌, length, map, Option, None, Some, Result, Ok}
use Rattle.std.specs.Prelude.{Err, if◌then◌else◌}
use Rattle.std.specs.Option.{option_map, option_or}
use Rattle.std.specs.Result.{result_unwrap_or}
use Rattle.std.specs.List.{flat_map}
use Rattle.std.specs.Str.Lines.{lines}
use Rattle.alpha_text.specs.declared.reader.LineFault.{LineFault}
use Rattle.alpha_text.specs.Statements.{empty}
use Rattle.alpha_text.specs.Reading.{LineStmt, read}
use Rattle.alpha_image.specs.FieldTests.{least_bad_field}
use Rattle.alpha_asm.specs.declared.kind.SourceKind.{SourceKind}
use Rattle.alpha_asm.specs.declared.kind.SourceKind.TheVariants as kinds
use Rattle.alpha_asm.specs.declared.fault.AsmFault.{AsmFault}
use Rattle.alpha_asm.specs.declared.fault.AsmFault.TheVariants.{Line, Duplicate, Undefined, Reach, Section, NoEntry}
use Rattle.alpha_asm.specs.declared.fault.AsmFault.TheVariants.{LongLine, ImageField}
use Rattle.alpha_asm.specs.Statement.{Entry}
use Rattle.alpha_asm.specs.Layout.{layout, end, first, fields, location_of, is_misplaced_in, repeats_field}
use Rattle.alpha_asm.specs.Layout.{repeats_label}
use Rattle.alpha_asm.specs.Program.{Program, names_in, undefined_line, out_of_range_line, known, numbers_of, program}

-- what a line says where it is one
abbrev pub item_at : List ℕ → LineStmt
item_at line = result_unwrap_or (read line) (record { label = None; statement = empty })

-- why a line that reads so is refused behind the items before it, in a source of this kind
abbrev pub refused_read : SourceKind → List LineStmt → ℕ → Result LineStmt LineFault → Option AsmFault
refused_read kind is n (Err fault) = Some (Line n fault)
refused_read kind is n (Ok i) =
    if is_misplaced_in kind (end is) i.statement then Some (Section n)
    else if repeats_field (fields (layout is)) i.statement || repeats_label (location_of (layout is)) i.label
    then Some (Duplicate n)
    else None

-- why a line is refused behind the items of the lines before it
unfoldable pub refused : SourceKind → List LineStmt → List ℕ → Option AsmFault
refused kind is line =
    if nat_lt 1024 (length line) then Some (LongLine (length is + 1))
    else refused_read kind is (length is + 1) (read line)

-- the refusal of the least line that is refused, behind such items
abbrev pub first_refused : SourceKind → List LineStmt → List (List ℕ) → Option AsmFault
first_refused kind is [] = None
first_refused kind is (line ∷ rest) =
    option_or (refused kind is line) (first_refused kind (is ++ item_at line ∷ []) rest)

-- the refusal if there is one
abbrev pub unless : {A : Type 0} → Option AsmFault → Result A AsmFault → Result A AsmFault
unless None r = r
unless (Some fault) r = Err fault

-- the program of items with an entry, or why they make none
abbrev pub made_at : List LineStmt → Option Entry → Result Program AsmFault
made_at is None = Err NoEntry
made_at is (Some entry) =
    unless (option_map Undefined (first (undefined_line (known is)) (flat_map names_in (layout is))))
    (unless (option_map ImageField (least_bad_field (numbers_of is entry)))
    (unless (option_map Reach (first (out_of_range_line (known is)) (flat_map names_in (layout is))))
    (Ok (program is entry))))

unfoldable pub assembled_program : List LineStmt → Result Program AsmFault
assembled_program is = made_at is (fields (layout is)).entry

-- the program that a source defines, or its first refusal
unfoldable pub assembled : List ℕ → Result Program AsmFault
assembled source =
    unless (first_refused kinds.Program [] (lines source)) (assembled_program (map item_at (lines source)))
