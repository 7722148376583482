-- What a source is a source of.
use Rattle.std.specs.Prelude.{◌≡◌, ℕ, List, Ok}
use Rattle.alpha_image.specs.Parts.{Parts, IsImage}
use Rattle.alpha_asm.specs.Program.{program_of}
use Rattle.alpha_asm.specs.Assembled.{assembled}

-- the source assembles to this image
abbrev pub IsSourceOf : List ℕ → Parts → Type 0
IsSourceOf source image = IsImage image × (assembled source ≡ Ok (program_of image))
