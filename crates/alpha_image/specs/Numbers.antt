-- The numbers that an image begins with, whichever its version.
use Rattle.std.specs.Prelude.{ℕ, List}
use Rattle.alpha_image.specs.declared.segment.Segment.{Segment}

pub record Numbers : Type 0 where
  pub level : ℕ
  pub code_base : ℕ
  pub entry : ℕ
  -- how many code words
  pub words : ℕ
  -- how many stack bytes
  pub stack : ℕ
  pub segments : List Segment
