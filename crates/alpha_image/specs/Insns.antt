-- The instructions of an image's code.
use Rattle.alpha_words.specs.declared.Level.{Level}
use Rattle.alpha_table.specs.declared.form.Form.{Form}
use Rattle.alpha_table.specs.Row.{IsInsn}
use Rattle.alpha_table.specs.Columns.{level_of}
use Rattle.alpha_image.specs.Parts.{IsWithin}

-- an instruction of the table that is there at the level
abbrev pub IsCodeInsn : Level → Form → Type 0
IsCodeInsn level i = IsInsn i × IsWithin (level_of i) level
