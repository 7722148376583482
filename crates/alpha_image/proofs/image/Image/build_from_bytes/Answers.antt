use Rattle.std.proofs.Common.{◌≡◌, length, map, refl, sym, arith}
use Rattle.alpha_table.specs.Encoded.{encoded}
use Rattle.alpha_image.specs.Header.{header_numbers}
use Rattle.alpha_image.specs.Reading.{words_of, numbered_level}
use Rattle.alpha_image.specs.Parts.{IsImage, numbers}
use Rattle.alpha_image.specs.PartsOf.{parts_with}
use Rattle.alpha_image.proofs.CodeWords.{length-words_of}
use Rattle.alpha_image.proofs.CodeInsns.{words_of_insns}
use Rattle.alpha_image.proofs.ReadSpelling.{IsImage-parts_with, numbers-parts_with}
use Rattle.alpha_image.proofs.image.Image.build_from_bytes.Goals as goal

pub invariant_of-result : goal.invariant_of-result
invariant_of-result c =
    let h = c.args.header in
    let n = header_numbers h in
    let code = c.args.code.now in
    let bytes = c.args.bytes.now in
    let words : length (words_of code) ≡ h.words = omega (arith, c.requires.words, length-words_of code) in
    let none = rw c.level.ensures.value at c.in_ok-insns.ensures.fault in
    let good : IsImage (parts_with h.version n (words_of code) bytes) =
    IsImage-parts_with h.version n code bytes c.requires.fields c.requires.matches_version c.requires.words
    c.requires.filled
    (λ i. omega (arith, c.type_inv.code i)) (λ i. omega (arith, c.type_inv.bytes i)) none in
    let same : numbers (parts_with h.version n (words_of code) bytes) ≡ n =
    numbers-parts_with h.version n (words_of code) bytes c.requires.fields words in
    let read = c.in_ok-insns.ensures.insns in
    let spelled : map encoded c.in_ok-insns.insns.items ≡ words_of code =
    sym (words_of_insns (numbered_level h.fields.level) (words_of code) c.in_ok-insns.insns.items good.words read) in
    record {
      good = rw (spelled, c.in_ok-from_slice.ensures.items) good;
      numbers = rw spelled same;
      insns = rw spelled read;
      within = omega arith;
    }

pub returns-clause-good : goal.returns-clause-good
returns-clause-good c =
    let h = c.args.header in
    let n = header_numbers h in
    let code = c.args.code.now in
    let bytes = c.args.bytes.now in
    let none = rw c.level.ensures.value at c.in_ok-insns.ensures.fault in
    let good : IsImage (parts_with h.version n (words_of code) bytes) =
    IsImage-parts_with h.version n code bytes c.requires.fields c.requires.matches_version c.requires.words
    c.requires.filled
    (λ i. omega (arith, c.type_inv.code i)) (λ i. omega (arith, c.type_inv.bytes i)) none in
    let spelled : map encoded c.in_ok-insns.insns.items ≡ words_of code = sym (words_of_insns
    (numbered_level h.fields.level) (words_of code) c.in_ok-insns.insns.items good.words c.in_ok-insns.ensures.insns) in
    rw (spelled, c.in_ok-from_slice.ensures.items) good

pub returns-clause-parts : goal.returns-clause-parts
returns-clause-parts c =
    let h = c.args.header in
    let n = header_numbers h in
    let code = c.args.code.now in
    let bytes = c.args.bytes.now in
    let none = rw c.level.ensures.value at c.in_ok-insns.ensures.fault in
    let good : IsImage (parts_with h.version n (words_of code) bytes) =
    IsImage-parts_with h.version n code bytes c.requires.fields c.requires.matches_version c.requires.words
    c.requires.filled
    (λ i. omega (arith, c.type_inv.code i)) (λ i. omega (arith, c.type_inv.bytes i)) none in
    let spelled : map encoded c.in_ok-insns.insns.items ≡ words_of code = sym (words_of_insns
    (numbered_level h.fields.level) (words_of code) c.in_ok-insns.insns.items good.words c.in_ok-insns.ensures.insns) in
    rw (spelled, c.in_ok-from_slice.ensures.items) refl
