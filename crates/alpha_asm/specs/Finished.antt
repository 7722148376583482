-- A program with all addresses put in, as the code has it.
use Rattle.std.specs.Prelude.{◌≡◌, ℕ, List, length, All, Option, None, Result, Ok}
use Rattle.std.specs.Option.{option_map, unwrap_or}
use Rattle.std.specs.List.{flat_map}
use Rattle.alpha_text.specs.Reading.{LineStmt}
use Rattle.alpha_image.specs.declared.fields.LevelFields.{LevelFields}
use Rattle.alpha_image.specs.Numbers.{Numbers}
use Rattle.alpha_image.specs.Fields.{level_numbers}
use Rattle.alpha_image.specs.Layout.{filled_size}
use Rattle.alpha_image.specs.Rules.{FieldsFit}
use Rattle.alpha_image.specs.FieldTests.{least_bad_field}
use Rattle.alpha_asm.specs.declared.fault.AsmFault.{AsmFault}
use Rattle.alpha_asm.specs.declared.fault.AsmFault.TheVariants.{ImageField, Reach}
use Rattle.alpha_asm.specs.declared.program.Finished.{Finished}
use Rattle.alpha_asm.specs.Statement.{Entry}
use Rattle.alpha_asm.specs.Layout.{Fields, layout, end, first}
use Rattle.alpha_asm.specs.Program.{Program, Known, names_in, undefined_line, out_of_range_line, code_in, bytes_in}
use Rattle.alpha_asm.specs.Program.{known}
use Rattle.alpha_asm.specs.Program.{stack_of, entry_number, version_of, own_segments, numbers_of, program_with}
use Rattle.alpha_asm.specs.Assembled.{unless}
use Rattle.alpha_asm.specs.Pass.{IsAtLevel}

-- the numbers of an image that its code, data bytes and segments don't give
abbrev pub fields_of : Known → Fields → Option ℕ → Entry → LevelFields
fields_of k f level entry = record {
  code_base = k.code_base;
  entry = entry_number k entry;
  stack = stack_of f;
  level = unwrap_or level 1;
}

abbrev pub finished_numbers : Finished → Numbers
finished_numbers f = level_numbers f.fields (length f.code.items) (own_segments f.level f.segments.items)

abbrev pub finished_program : Finished → Program
finished_program f = program_with (version_of f.level) (finished_numbers f) f.code.items f.bytes.items

-- the program, or why it has no image
abbrev pub finished_result : Finished → Result Program AsmFault
finished_result f =
    unless (option_map ImageField (least_bad_field (finished_numbers f)))
    (unless (option_map Reach f.out_of_range)
    (Ok (finished_program f)))

-- Where no field is bad, the data bytes are those of the segments; else some may be missing, since there may be more of
-- them than an image may have. Without a level there is one segment, and the image has the first level. Each
-- instruction is there at the level.
pub record IsWhole (f : Finished) : Type 0 where
  pub filled : FieldsFit (finished_numbers f)
      → length f.bytes.items ≡ filled_size (own_segments f.level f.segments.items)
  pub single : f.level ≡ None → length f.segments.items ≡ 1
  pub level : f.fields.level ≡ unwrap_or f.level 1
  pub insns : All (IsAtLevel f.level) f.code.items

-- it is that of the items and an entry
pub record Finishes (is : List LineStmt) (entry : Entry) (f : Finished) : Type 0 where
  pub defined : first (undefined_line (known is)) (flat_map names_in (layout is)) ≡ None
  pub level : f.level ≡ (end is).level
  pub numbers : finished_numbers f ≡ numbers_of is entry
  pub code : f.code.items ≡ flat_map (code_in (known is)) (layout is)
  pub bytes : FieldsFit (finished_numbers f) → f.bytes.items ≡ flat_map (bytes_in (known is)) (layout is)
  pub out_of_range : f.out_of_range ≡ first (out_of_range_line (known is)) (flat_map names_in (layout is))
