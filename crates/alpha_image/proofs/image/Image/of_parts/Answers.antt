use Rattle.std.proofs.Common.{◌≡◌, length, map, ◌∙◌, arith}
use Rattle.std.proofs.lemmas.List.{length-map}
use Rattle.alpha_table.specs.Encoded.{encoded}
use Rattle.alpha_image.specs.Header.{header_numbers}
use Rattle.alpha_image.specs.Reading.{numbered_level}
use Rattle.alpha_image.proofs.CodeInsns.{IsCodeWord-map_encoded}
use Rattle.alpha_image.proofs.ReadSpelling.{IsImage-of_words, numbers-parts_with}
use Rattle.alpha_image.proofs.image.Image.of_parts.Goals as goal

pub returns-clause-good : goal.returns-clause-good
returns-clause-good c =
    let h = c.args.header in
    let insns = c.args.insns.items in
    let size : length (map encoded insns) ≡ h.words = length-map insns encoded ∙ c.requires.words in
    IsImage-of_words h.version (header_numbers h)
    (map encoded insns) c.args.bytes.items c.requires.fields c.requires.matches_version size c.requires.filled
    (IsCodeWord-map_encoded (numbered_level h.fields.level) insns c.requires.insns).0 c.requires.bytes

pub invariant_of-result : goal.invariant_of-result
invariant_of-result c =
    let h = c.args.header in
    let insns = c.args.insns.items in
    let size : length (map encoded insns) ≡ h.words = length-map insns encoded ∙ c.requires.words in
    record {
      good =
          IsImage-of_words h.version (header_numbers h)
          (map encoded insns) c.args.bytes.items c.requires.fields c.requires.matches_version size c.requires.filled
          (IsCodeWord-map_encoded (numbered_level h.fields.level) insns c.requires.insns).0 c.requires.bytes;
      numbers =
          numbers-parts_with h.version (header_numbers h) (map encoded insns) c.args.bytes.items c.requires.fields size;
      insns = (IsCodeWord-map_encoded (numbered_level h.fields.level) insns c.requires.insns).1;
      within = omega arith;
    }

pub returns-clause-insns : goal.returns-clause-insns
returns-clause-insns c =
    (IsCodeWord-map_encoded (numbered_level c.args.header.fields.level) c.args.insns.items c.requires.insns).1
