-- The numbers of an image that is made of fields.
use Rattle.std.specs.Prelude.{ℕ, List, [], ◌∷◌}
use Rattle.alpha_image.specs.declared.fields.Fields.{Fields}
use Rattle.alpha_image.specs.declared.fields.LevelFields.{LevelFields}
use Rattle.alpha_image.specs.declared.segment.Segment.{Segment}
use Rattle.alpha_image.specs.Numbers.{Numbers}

-- the numbers of an image with these fields, so many code words and these segments
abbrev pub level_numbers : LevelFields → ℕ → List Segment → Numbers
level_numbers fields words segments = record {
  level = fields.level;
  code_base = fields.code_base;
  entry = fields.entry;
  words = words;
  stack = fields.stack;
  segments = segments;
}

-- the fields of an image of the first version, which has the first level
abbrev pub level_fields : Fields → LevelFields
level_fields fields = record { code_base = fields.code_base; entry = fields.entry; stack = fields.stack; level = 1 }

-- and its one segment, with so many data bytes
abbrev pub segment_of : Fields → ℕ → Segment
segment_of fields filled = record { base = fields.data_base; filled = filled; zeroed = fields.zeroed }

abbrev pub first_numbers : Fields → ℕ → ℕ → Numbers
first_numbers fields words filled = level_numbers (level_fields fields) words (segment_of fields filled ∷ [])
