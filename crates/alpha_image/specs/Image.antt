-- The parts of an `Image`, whose code is held as its instructions.
use Rattle.std.specs.Prelude.{◌≡◌, ◌≤◌, length, drop, map, Some}
use Rattle.alpha_table.specs.Decoded.{decoded}
use Rattle.alpha_table.specs.Encoded.{encoded}
use Rattle.alpha_image.specs.declared.image.Image.TheInside.{Inside}
use Rattle.alpha_image.specs.Header.{header_numbers}
use Rattle.alpha_image.specs.Parts.{Parts, IsImage, numbers}
use Rattle.alpha_image.specs.PartsOf.{parts_with}

-- the code words are those of the instructions, and the data bytes stand behind the front of the bytes
abbrev pub parts_in : Inside → Parts
parts_in i =
    parts_with i.header.version (header_numbers i.header) (map encoded i.insns.items) (drop i.data_at i.bytes.items)

-- The parts are a good image, the header has its numbers, and each word stands for its instruction. The data begins
-- within the bytes.
pub record IsWhole (i : Inside) : Type 0 where
  pub good : IsImage (parts_in i)
  pub numbers : numbers (parts_in i) ≡ header_numbers i.header
  pub insns : map decoded (map encoded i.insns.items) ≡ map Some i.insns.items
  pub within : i.data_at ≤ length i.bytes.items
