-- The spelling of a good image has no fault, and gives the image again.
use Rattle.std.proofs.Common.{◌≡◌, ℕ, ◌+◌, ◌*◌, List, ◌++◌, length, take, drop, None, refl, sym, ap, ◌∙◌, arith}
use Rattle.std.specs.List.{flat_map}
use Rattle.std.proofs.lemmas.Bool.{eq-eqb, le-leb}
use Rattle.std.proofs.lemmas.List.{length-append, take_at, drop_at}
use Rattle.alpha_words.specs.declared.Level.{Level}
use Rattle.alpha_words.specs.declared.Level.TheVariants as levels
use Rattle.alpha_image.specs.declared.version.Version.{Version}
use Rattle.alpha_image.specs.declared.version.Version.TheVariants.{One, Two}
use Rattle.alpha_image.specs.Numbers.{Numbers}
use Rattle.alpha_image.specs.Layout.{longword, image_header}
use Rattle.alpha_image.specs.Reading.{words_of, image_header_size, version_of, numbers_in, numbers_of, size_of}
use Rattle.alpha_image.specs.Reading.{after_image_header}
use Rattle.alpha_image.specs.Reading.{words_in, data_in, numbered_level}
use Rattle.alpha_image.specs.Rules.{FieldsFit}
use Rattle.alpha_image.specs.FieldTests.{least_bad_field}
use Rattle.alpha_words.specs.Levels.{level_number}
use Rattle.alpha_image.specs.Parts.{Parts, numbers, IsImage, image_spelling}
use Rattle.alpha_image.specs.PartsOf.{parts_with, parts_of}
use Rattle.alpha_image.specs.ImageFault.{field_fault, image_header_fault, form_fault, first_fault, word_fault}
use Rattle.alpha_image.specs.Tells.{parts_fault}
use Rattle.alpha_image.proofs.ImageHeaders.{numbers_in-image_header, version_of-image_header, length-image_header}
use Rattle.alpha_image.proofs.ImageHeaders.{count-image_header, starts_with-image_header}
use Rattle.alpha_image.proofs.FieldRules.{least-FieldsFit}
use Rattle.alpha_image.proofs.CodeWords.{words_of-flat_map, length-flat_map_longword, word_fault-All}

abbrev segment_bytes : Parts → List ℕ
segment_bytes p = flat_map longword p.words ++ p.bytes

pub version_of-image_spelling : (p : Parts) → version_of (image_spelling p) ≡ p.version
unfolding image_spelling
version_of-image_spelling p = version_of-image_header p.version (numbers p) (segment_bytes p)

pub numbers_of-image_spelling : (p : Parts) → IsImage p → numbers_of (image_spelling p) ≡ numbers p
unfolding image_spelling
numbers_of-image_spelling p good =
    ap (λ (v : Version). numbers_in v (image_spelling p)) (version_of-image_spelling p)
    ∙ numbers_in-image_header p.version (numbers p) (segment_bytes p) good.fields good.version

after_image_header-image_spelling : (p : Parts) → IsImage p → after_image_header (image_spelling p) ≡ segment_bytes p
unfolding image_spelling after_image_header
after_image_header-image_spelling p good =
    ap (λ (n : Numbers). drop (image_header_size (version_of (image_spelling p)) n) (image_spelling p))
    (numbers_of-image_spelling p good)
    ∙ (ap (λ (v : Version). drop (image_header_size v (numbers p)) (image_spelling p)) (version_of-image_spelling p)
    ∙ drop_at (image_header p.version (numbers p)) (segment_bytes p) (image_header_size p.version (numbers p))
    (length-image_header p.version (numbers p)))

-- the number of code bytes that a spelling gives
code_size : (p : Parts) → IsImage p → 4 * (numbers_of (image_spelling p)).words ≡ length (flat_map longword p.words)
code_size p good =
    ap (λ (n : Numbers). 4 * n.words) (numbers_of-image_spelling p good) ∙ sym (length-flat_map_longword p.words)

pub words_in-image_spelling : (p : Parts) → IsImage p → words_in (image_spelling p) ≡ p.words
unfolding words_in
words_in-image_spelling p good =
    let code = flat_map longword p.words in
    ap (λ (n : ℕ). words_of (take n (after_image_header (image_spelling p)))) (code_size p good)
    ∙ (ap (λ (t : List ℕ). words_of (take (length code) t)) (after_image_header-image_spelling p good)
    ∙ (ap words_of (take_at code p.bytes (length code) refl) ∙ words_of-flat_map p.level p.words good.words))

pub data_in-image_spelling : (p : Parts) → IsImage p → data_in (image_spelling p) ≡ p.bytes
unfolding data_in
data_in-image_spelling p good =
    let code = flat_map longword p.words in
    ap (λ (n : ℕ). drop n (after_image_header (image_spelling p))) (code_size p good)
    ∙ (ap (λ (t : List ℕ). drop (length code) t) (after_image_header-image_spelling p good)
    ∙ drop_at code p.bytes (length code) refl)

pub numbered_level-level_number : (l : Level) → numbered_level (level_number l) ≡ l
numbered_level-level_number levels.One = refl
numbered_level-level_number levels.Two = refl

-- the image that is spelled is the one that its bytes give
pub parts_of-image_spelling : (p : Parts) → IsImage p → parts_of (image_spelling p) ≡ p
parts_of-image_spelling p good =
    let s = image_spelling p in
    ap (λ (v : Version). parts_with v (numbers_of s) (words_in s) (data_in s)) (version_of-image_spelling p)
    ∙ (ap (λ (n : Numbers). parts_with p.version n (words_in s) (data_in s)) (numbers_of-image_spelling p good)
    ∙ (ap (λ (words : List ℕ). parts_with p.version (numbers p) words (data_in s)) (words_in-image_spelling p good)
    ∙ (ap (λ (bytes : List ℕ). parts_with p.version (numbers p) p.words bytes) (data_in-image_spelling p good)
    ∙ ap (λ (l : Level). record p { level = l }) (numbered_level-level_number p.level))))

pub image_spelling-injective : (p q : Parts) → IsImage p → IsImage q → image_spelling p ≡ image_spelling q → p ≡ q
image_spelling-injective p q good other e =
    sym (parts_of-image_spelling p good) ∙ (ap parts_of e ∙ parts_of-image_spelling q other)

pub length-image_spelling : (p : Parts) → IsImage p → length (image_spelling p) ≡ size_of p.version (numbers p)
unfolding image_spelling
length-image_spelling p good =
    omega (
      arith,
      length-append (image_header p.version (numbers p)) (segment_bytes p),
      length-image_header p.version (numbers p),
      length-append (flat_map longword p.words) p.bytes,
      length-flat_map_longword p.words,
      good.filled,
    )

image_header_fault-image_header : (v : Version) (n : Numbers) (rest : List ℕ) → FieldsFit n
    → image_header_fault v (image_header v n ++ rest) ≡ None
unfolding image_header_fault
image_header_fault-image_header One n rest fit =
    let t = image_header One n ++ rest in
    let long =
    le-leb 48 (length t) (omega (arith, length-append (image_header One n) rest, length-image_header One n)) in
    rw (long, starts_with-image_header One n rest) refl
image_header_fault-image_header Two n rest fit =
    let t = image_header Two n ++ rest in
    let size : length t ≡ 40 + 16 * length n.segments + length rest =
    omega (arith, length-append (image_header Two n) rest, length-image_header Two n) in
    let long = le-leb 40 (length t) (omega arith) in
    let few = le-leb (length n.segments) 8 fit.segments in
    let there = le-leb (40 + 16 * length n.segments) (length t) (omega arith) in
    rw (long, count-image_header n rest fit, few, there) refl

image_header_fault-image_spelling : (p : Parts) → IsImage p
    → image_header_fault (version_of (image_spelling p)) (image_spelling p) ≡ None
unfolding image_spelling
image_header_fault-image_spelling p good =
    ap (λ (v : Version). image_header_fault v (image_spelling p)) (version_of-image_spelling p)
    ∙ image_header_fault-image_header p.version (numbers p) (segment_bytes p) good.fields

size_of-image_spelling : (p : Parts) → IsImage p
    → length (image_spelling p) ≡ size_of (version_of (image_spelling p)) (numbers_of (image_spelling p))
size_of-image_spelling p good =
    length-image_spelling p good
    ∙ (ap (λ (v : Version). size_of v (numbers p)) (sym (version_of-image_spelling p))
    ∙ ap (λ (n : Numbers). size_of (version_of (image_spelling p)) n) (sym (numbers_of-image_spelling p good)))

pub form_fault-image_spelling : (p : Parts) → IsImage p → form_fault (image_spelling p) ≡ None
unfolding form_fault field_fault
form_fault-image_spelling p good =
    let least : least_bad_field (numbers_of (image_spelling p)) ≡ None =
    ap least_bad_field (numbers_of-image_spelling p good) ∙ least-FieldsFit (numbers p) good.fields in
    let size =
    eq-eqb (length (image_spelling p)) (size_of (version_of (image_spelling p)) (numbers_of (image_spelling p)))
    (size_of-image_spelling p good) in
    rw (image_header_fault-image_spelling p good, least, size) refl

word_fault-image_spelling : (p : Parts) → IsImage p
    → word_fault (numbered_level (numbers_of (image_spelling p)).level) (words_in (image_spelling p)) ≡ None
word_fault-image_spelling p good =
    ap (λ (n : Numbers). word_fault (numbered_level n.level) (words_in (image_spelling p)))
    (numbers_of-image_spelling p good)
    ∙ (ap (λ (l : Level). word_fault l (words_in (image_spelling p))) (numbered_level-level_number p.level)
    ∙ (ap (λ (words : List ℕ). word_fault p.level words) (words_in-image_spelling p good)
    ∙ word_fault-All p.level p.words good.words))

pub first_fault-image_spelling : (p : Parts) → IsImage p → first_fault (image_spelling p) ≡ None
unfolding first_fault
first_fault-image_spelling p good = rw (form_fault-image_spelling p good) (word_fault-image_spelling p good)

pub parts_fault-IsImage : (p : Parts) → IsImage p → parts_fault (numbers p) p.words ≡ None
unfolding parts_fault field_fault
parts_fault-IsImage p good =
    rw (least-FieldsFit (numbers p) good.fields, numbered_level-level_number p.level)
    (word_fault-All p.level p.words good.words)
