-- The numbers of an image's fields, and how a fault names one.
use Rattle.std.specs.Prelude.{ℕ, List, codes}
use Rattle.alpha_image.specs.declared.field.ImageField.{ImageField}
use Rattle.alpha_image.specs.declared.field.ImageField.TheVariants as fields

abbrev pub field_number : ImageField → ℕ
field_number fields.CodeBase = 1
field_number fields.DataBases = 2
field_number fields.CodeWords = 3
field_number fields.DataBytes = 4
field_number fields.ZeroedBytes = 5
field_number fields.StackBytes = 6
field_number fields.Entry = 7
field_number fields.Overlap = 8
field_number fields.Level = 9
field_number fields.Segments = 10

abbrev pub field_name : ImageField → List ℕ
field_name fields.CodeBase = codes "code base"
field_name fields.DataBases = codes "data bases"
field_name fields.CodeWords = codes "code words"
field_name fields.DataBytes = codes "data bytes"
field_name fields.ZeroedBytes = codes "zeroed bytes"
field_name fields.StackBytes = codes "stack bytes"
field_name fields.Entry = codes "entry"
field_name fields.Overlap = codes "overlap"
field_name fields.Level = codes "level"
field_name fields.Segments = codes "number of segments"
