-- Bytes without a fault are the spelling of the good image that they give.
use Rattle.std.proofs.Common.{◌≡◌, ◌≢◌, ℕ, ◌*◌, ◌-◌, ◌^◌, ◌<◌, Bool, true, false, cond, IsTrue, eqb, leb, nat_eq, List}
use Rattle.std.proofs.Common.{◌++◌, length, take, drop, Option, Some, None, inl, inr, ⊎_elim, refl, sym, ap, subst, ◌∙◌}
use Rattle.std.proofs.Common.{arith}
use Rattle.std.specs.List.{starts_with, flat_map, All}
use Rattle.std.specs.Option.{option_map, option_or}
use Rattle.std.proofs.lemmas.Bool.{eqb-true, cases_lt}
use Rattle.std.proofs.lemmas.Bool.Decides.{Decides-eqb}
use Rattle.std.proofs.lemmas.Slice.Eq.{starts_is}
use Rattle.std.proofs.lemmas.List.{length-take, length-drop, take-append-drop, take_rest, get_or_past}
use Rattle.std.proofs.lemmas.List.Elements.{All-from_get_or, All-get_or}
use Rattle.alpha_words.specs.declared.Level.{Level}
use Rattle.alpha_image.specs.declared.fault.ImageFault.{ImageFault}
use Rattle.alpha_image.specs.declared.fault.ImageFault.TheVariants.{Short, Magic, Field, Length, BadWord, NoMemory}
use Rattle.alpha_image.specs.declared.version.Version.{Version}
use Rattle.alpha_image.specs.declared.version.Version.TheVariants.{One, Two}
use Rattle.alpha_image.specs.Numbers.{Numbers}
use Rattle.alpha_image.specs.Layout.{magic, longword, image_header, filled_size}
use Rattle.alpha_image.specs.Reading.{words_of, image_header_size, version_of, numbers_in, numbers_of, size_of}
use Rattle.alpha_image.specs.Reading.{after_image_header}
use Rattle.alpha_image.specs.Reading.{words_in, data_in, numbered_level}
use Rattle.alpha_image.specs.Rules.{FieldsFit}
use Rattle.alpha_image.specs.FirstOf.{unless}
use Rattle.alpha_image.specs.TestsDecide.{LevelFits}
use Rattle.alpha_image.specs.FieldTests.{least_bad_field}
use Rattle.alpha_words.specs.Levels.{level_number}
use Rattle.alpha_image.specs.Parts.{Parts, SuitsVersion, numbers, IsImage, IsCodeWord, IsByte, image_spelling}
use Rattle.alpha_image.specs.PartsOf.{parts_with, parts_of, HasForm}
use Rattle.alpha_image.specs.ImageFault.{word_fault, field_fault, image_header_fault, form_fault, first_fault}
use Rattle.alpha_image.specs.Tells.{parts_fault, Refuses}
use Rattle.alpha_image.proofs.LittleEndianNumbers.{IsBytes, IsBytes-take, IsBytes-drop}
use Rattle.alpha_image.proofs.ImageHeaders.{image_header-numbers_in}
use Rattle.alpha_image.proofs.FieldRules.{option_or-both_none, unless-none, FieldsFit-least}
use Rattle.alpha_image.proofs.CodeWords.{length-words_of, All-word_fault, words_of-lt, flat_map-words_of}
use Rattle.alpha_image.proofs.CodeWords.{option_map-none}
use Rattle.alpha_image.proofs.Spelled.{numbered_level-level_number}

starts_magic : (v : Version) (bytes : List ℕ) → IsTrue (starts_with nat_eq bytes (magic v))
    → bytes ≡ magic v ++ drop 8 bytes
starts_magic One bytes t = (starts_is Decides-eqb bytes (magic One) _ refl).0 t
starts_magic Two bytes t = (starts_is Decides-eqb bytes (magic Two) _ refl).0 t

two_from : (b : Bool) → cond b Two One ≡ Two → IsTrue b
two_from true e = refl
two_from false e = absurd cc

starts_two : (bytes : List ℕ) → version_of bytes ≡ Two → IsTrue (starts_with nat_eq bytes (magic Two))
unfolding version_of
starts_two bytes e = two_from (starts_with nat_eq bytes (magic Two)) e

starts-image_header_fault : (v : Version) (bytes : List ℕ) → version_of bytes ≡ v → image_header_fault v bytes ≡ None
    → bytes ≡ magic v ++ drop 8 bytes
unfolding image_header_fault
starts-image_header_fault One bytes e none =
    let a = option_or-both_none (unless (leb 48 (length bytes)) (Short (length bytes))) _ none in
    let b = option_or-both_none (unless (starts_with nat_eq bytes (magic One)) Magic) _ a.1 in
    starts_magic One bytes (unless-none _ _ b.0)
starts-image_header_fault Two bytes e none = starts_magic Two bytes (starts_two bytes e)

pub HasForm-form_fault : (bytes : List ℕ) → form_fault bytes ≡ None → HasForm bytes
unfolding form_fault field_fault
HasForm-form_fault bytes e =
    let n = numbers_of bytes in
    let wanted = size_of (version_of bytes) n in
    let a = option_or-both_none (image_header_fault (version_of bytes) bytes) _ e in
    let b = option_or-both_none (option_map Field (least_bad_field n)) _ a.1 in
    let c = option_or-both_none (unless (eqb (length bytes) wanted) (Length (length bytes) wanted)) _ b.1 in
    record {
      magic = starts-image_header_fault (version_of bytes) bytes refl a.0;
      fields = FieldsFit-least n (option_map-none Field (least_bad_field n) b.0);
      size = eqb-true _ _ (unless-none _ _ c.0);
    }

-- and what is looked at step by step
pub HasForm-checked : (bytes : List ℕ) → image_header_fault (version_of bytes) bytes ≡ None
    → FieldsFit (numbers_of bytes)
    → length bytes ≡ size_of (version_of bytes) (numbers_of bytes) → HasForm bytes
HasForm-checked bytes none fit size =
    record { magic = starts-image_header_fault (version_of bytes) bytes refl none; fields = fit; size = size }

-- the level of a number that fits has that number
pub level_number-numbered_level : (n : Numbers) → LevelFits n → level_number (numbered_level n.level) ≡ n.level
level_number-numbered_level n fits = ⊎_elim (λ (e : n.level ≡ 1). rw e refl) (λ (e : n.level ≡ 2). rw e refl) fits

-- the numbers of parts with numbers that fit
pub numbers-parts_with : (v : Version) (n : Numbers) (words bytes : List ℕ) → FieldsFit n → length words ≡ n.words
    → numbers (parts_with v n words bytes) ≡ n
numbers-parts_with v n words bytes fit len = rw (level_number-numbered_level n fit.level, len) refl

-- parts with numbers that fit, with as many code words and data bytes as they say, are a good image
pub IsImage-of_words : (v : Version) (n : Numbers) (words bytes : List ℕ) → FieldsFit n → SuitsVersion v n
    → length words ≡ n.words → length bytes ≡ filled_size n.segments → All (IsCodeWord (numbered_level n.level)) words
    → All IsByte bytes → IsImage (parts_with v n words bytes)
IsImage-of_words v n words bytes fit suits len1 len2 known bytes2 =
    let same = sym (numbers-parts_with v n words bytes fit len1) in
    record {
      version = subst (λ (m : Numbers). SuitsVersion v m) same suits;
      fields = subst (λ (m : Numbers). FieldsFit m) same fit;
      words = known;
      bytes = bytes2;
      filled = len2;
    }

-- the same of words that have no fault
pub IsImage-parts_with : (v : Version) (n : Numbers) (code bytes : List ℕ) → FieldsFit n → SuitsVersion v n
    → length code ≡ 4 * n.words → length bytes ≡ filled_size n.segments → IsBytes code → IsBytes bytes
    → word_fault (numbered_level n.level) (words_of code) ≡ None → IsImage (parts_with v n (words_of code) bytes)
IsImage-parts_with v n code bytes fit suits len1 len2 bytes1 bytes2 none =
    IsImage-of_words v n (words_of code) bytes fit suits (omega (arith, length-words_of code)) len2
    (All-word_fault (numbered_level n.level) (words_of code) (words_of-lt code bytes1) none)
    (All-from_get_or IsByte bytes 0 (λ i _. bytes2 i))

pub SuitsVersion-numbers_in : (v : Version) (bytes : List ℕ) → SuitsVersion v (numbers_in v bytes)
SuitsVersion-numbers_in One bytes = (refl, refl)
SuitsVersion-numbers_in Two bytes = tt

-- the code bytes that stand behind a front
abbrev pub code_in : List ℕ → List ℕ
code_in bytes = take (4 * (numbers_of bytes).words) (after_image_header bytes)

length-code_in : (bytes : List ℕ) → HasForm bytes → length (code_in bytes) ≡ 4 * (numbers_of bytes).words
unfolding after_image_header
length-code_in bytes form =
    let size = image_header_size (version_of bytes) (numbers_of bytes) in
    omega (arith, form.size, length-take (4 * (numbers_of bytes).words) (drop size bytes), length-drop size bytes)

length-data_in : (bytes : List ℕ) → HasForm bytes → length (data_in bytes) ≡ filled_size (numbers_of bytes).segments
unfolding after_image_header data_in
length-data_in bytes form =
    let size = image_header_size (version_of bytes) (numbers_of bytes) in
    omega (arith, form.size, length-drop (4 * (numbers_of bytes).words) (drop size bytes), length-drop size bytes)

bytes-code_in : (bytes : List ℕ) → IsBytes bytes → IsBytes (code_in bytes)
unfolding after_image_header
bytes-code_in bytes fits =
    IsBytes-take (4 * (numbers_of bytes).words) (after_image_header bytes)
    (IsBytes-drop (image_header_size (version_of bytes) (numbers_of bytes)) bytes fits)

bytes-data_in : (bytes : List ℕ) → IsBytes bytes → IsBytes (data_in bytes)
unfolding after_image_header data_in
bytes-data_in bytes fits =
    IsBytes-drop (4 * (numbers_of bytes).words) (after_image_header bytes)
    (IsBytes-drop (image_header_size (version_of bytes) (numbers_of bytes)) bytes fits)

image_header-behind : (bytes : List ℕ) → IsBytes bytes → HasForm bytes
    → bytes ≡ image_header (version_of bytes) (numbers_of bytes) ++ after_image_header bytes
unfolding after_image_header
image_header-behind bytes fits form =
    image_header-numbers_in (version_of bytes) bytes fits (omega (arith, form.size)) form.magic

-- the words of the code
code-words_in : (bytes : List ℕ) → IsBytes bytes → HasForm bytes → flat_map longword (words_in bytes) ≡ code_in bytes
unfolding words_in
code-words_in bytes fits form =
    flat_map-words_of (code_in bytes) (numbers_of bytes).words (length-code_in bytes form) (bytes-code_in bytes fits)

behind-parts : (bytes : List ℕ) → after_image_header bytes ≡ code_in bytes ++ data_in bytes
unfolding data_in
behind-parts bytes = sym (take-append-drop (4 * (numbers_of bytes).words) (after_image_header bytes))

pub length-words_in : (bytes : List ℕ) → HasForm bytes → length (words_in bytes) ≡ (numbers_of bytes).words
unfolding words_in
length-words_in bytes form = omega (arith, length-words_of (code_in bytes), length-code_in bytes form)

pub image_spelling-parts_of : (bytes : List ℕ) → IsBytes bytes → HasForm bytes → bytes ≡ image_spelling (parts_of bytes)
unfolding image_spelling
image_spelling-parts_of bytes fits form =
    let v = version_of bytes in
    let n = numbers_of bytes in
    let same : numbers (parts_of bytes) ≡ n =
    numbers-parts_with v n (words_in bytes) (data_in bytes) form.fields (length-words_in bytes form) in
    image_header-behind bytes fits form
    ∙ (ap (λ (t : List ℕ). image_header v n ++ t)
    (behind-parts bytes ∙ ap (λ (t : List ℕ). t ++ data_in bytes) (sym (code-words_in bytes fits form)))
    ∙ ap (λ (m : Numbers). image_header v m ++ (flat_map longword (words_in bytes) ++ data_in bytes)) (sym same))

-- bytes without a fault
pub IsImage-first_fault : (bytes : List ℕ) → IsBytes bytes → HasForm bytes
    → word_fault (numbered_level (numbers_of bytes).level) (words_in bytes) ≡ None → IsImage (parts_of bytes)
unfolding words_in
IsImage-first_fault bytes fits form none =
    IsImage-parts_with (version_of bytes) (numbers_of bytes) (code_in bytes) (data_in bytes) form.fields
    (SuitsVersion-numbers_in (version_of bytes) bytes)
    (length-code_in bytes form) (length-data_in bytes form) (bytes-code_in bytes fits) (bytes-data_in bytes fits) none

-- a fault is the first of two
pub Refuses-option_or : (e : ImageFault) (o p : Option ImageFault) → e ≢ NoMemory → Refuses e o
    → Refuses e (option_or o p)
Refuses-option_or (Short n) o p ne h = ap (λ (q : Option ImageFault). option_or q p) h
Refuses-option_or Magic o p ne h = ap (λ (q : Option ImageFault). option_or q p) h
Refuses-option_or (Field n) o p ne h = ap (λ (q : Option ImageFault). option_or q p) h
Refuses-option_or (Length m n) o p ne h = ap (λ (q : Option ImageFault). option_or q p) h
Refuses-option_or (BadWord m n) o p ne h = ap (λ (q : Option ImageFault). option_or q p) h
Refuses-option_or NoMemory o p ne h = absurd (ne refl)

-- a fault of the form is the first fault
pub Refuses-form_fault : (e : ImageFault) (bytes : List ℕ) → e ≢ NoMemory → Refuses e (form_fault bytes)
    → Refuses e (first_fault bytes)
unfolding first_fault
Refuses-form_fault e bytes ne h =
    Refuses-option_or e (form_fault bytes) (word_fault (numbered_level (numbers_of bytes).level) (words_in bytes)) ne h

-- behind a good form the first fault is that of the words
pub first_fault-words : (bytes : List ℕ) → form_fault bytes ≡ None
    → word_fault (numbered_level (numbers_of bytes).level) (words_in bytes) ≡ first_fault bytes
unfolding first_fault
first_fault-words bytes none = rw none refl

-- the same by the code that is cut out of the bytes
pub first_fault-form : (bytes code : List ℕ) → form_fault bytes ≡ None → code ≡ code_in bytes
    → word_fault (numbered_level (numbers_of bytes).level) (words_of code) ≡ first_fault bytes
unfolding first_fault words_in
first_fault-form bytes code none e = rw (none, e) refl

-- the parts that are cut out of bytes are those that the bytes give
pub parts_with-cut : (bytes code rest : List ℕ) (v : Version) (n : Numbers)
    → v ≡ version_of bytes → n ≡ numbers_of bytes → code ≡ code_in bytes → rest ≡ data_in bytes
    → parts_with v n (words_of code) rest ≡ parts_of bytes
unfolding words_in
parts_with-cut bytes code rest v n ev en ec ed =
    ap (λ (w : Version). parts_with w n (words_of code) rest) ev
    ∙ (ap (λ (m : Numbers). parts_with (version_of bytes) m (words_of code) rest) en
    ∙ (ap (λ (c : List ℕ). parts_with (version_of bytes) (numbers_of bytes) (words_of c) rest) ec
    ∙ ap (λ (d : List ℕ). parts_with (version_of bytes) (numbers_of bytes) (words_of (code_in bytes)) d) ed))

pub IsBytes-All : (bytes : List ℕ) → All IsByte bytes → IsBytes bytes
IsBytes-All bytes all i =
    elim (cases_lt i (length bytes)) [
      | inl lt ↦ All-get_or IsByte bytes i 0 lt all
      | inr le ↦ rw (get_or_past bytes i 0 le) (omega arith)
    ]

-- bytes without a fault spell the good image that they give
pub image-no_fault : (bytes : List ℕ) → IsBytes bytes → first_fault bytes ≡ None
    → IsImage (parts_of bytes) × (bytes ≡ image_spelling (parts_of bytes))
unfolding first_fault
image-no_fault bytes fits e =
    let none =
    option_or-both_none (form_fault bytes) (word_fault (numbered_level (numbers_of bytes).level) (words_in bytes)) e in
    let form = HasForm-form_fault bytes none.0 in
    (IsImage-first_fault bytes fits form none.1, image_spelling-parts_of bytes fits form)

-- parts without a fault
pub IsImage-parts_fault : (p : Parts) → SuitsVersion p.version (numbers p) → length p.bytes ≡ filled_size p.segments
    → All (λ (w : ℕ). w < 2 ^ 32) p.words → All IsByte p.bytes → parts_fault (numbers p) p.words ≡ None → IsImage p
unfolding parts_fault field_fault
IsImage-parts_fault p suits filled words bytes e =
    let level = numbered_level (level_number p.level) in
    let none = option_or-both_none (option_map Field (least_bad_field (numbers p))) (word_fault level p.words) e in
    let at : word_fault p.level p.words ≡ None =
    ap (λ (l : Level). word_fault l p.words) (sym (numbered_level-level_number p.level)) ∙ none.1 in
    record {
      version = suits;
      fields = FieldsFit-least (numbers p) (option_map-none Field (least_bad_field (numbers p)) none.0);
      words = All-word_fault p.level p.words (λ k h. All-get_or (λ (w : ℕ). w < 2 ^ 32) p.words k 0 h words) at;
      bytes = bytes;
      filled = filled;
    }

-- the first fault of numbers and words, where the numbers have one
pub parts_fault-field : (n : Numbers) (words : List ℕ) (field : ℕ) → Some field ≡ least_bad_field n
    → parts_fault n words ≡ Some (Field field)
unfolding parts_fault field_fault
parts_fault-field n words field e = rw (sym e) refl

-- and where they have none
pub parts_fault-words : (n : Numbers) (words : List ℕ) → None ≡ least_bad_field n
    → word_fault (numbered_level n.level) words ≡ parts_fault n words
unfolding parts_fault field_fault
parts_fault-words n words e = rw (sym e) refl

-- what stands behind a front, cut into code and data bytes
pub code_in-cut_behind_header : (bytes : List ℕ) (size : ℕ) (v : Version) (n : Numbers) (k : ℕ) (code rest : List ℕ)
    → size ≡ image_header_size v n → v ≡ version_of bytes → n ≡ numbers_of bytes → k ≡ 4 * n.words
    → code ≡ take k (take (length bytes - size) (drop size bytes))
    → rest ≡ drop k (take (length bytes - size) (drop size bytes))
    → (code ≡ code_in bytes) × (rest ≡ data_in bytes)
unfolding after_image_header data_in
code_in-cut_behind_header bytes size v n k code rest es ev en ek ec er =
    let whole = take_rest bytes size in
    let at : size ≡ image_header_size (version_of bytes) (numbers_of bytes) =
    es ∙ (ap (λ (w : Version). image_header_size w n) ev
    ∙ ap (λ (m : Numbers). image_header_size (version_of bytes) m) en) in
    let words : k ≡ 4 * (numbers_of bytes).words = ek ∙ ap (λ (m : Numbers). 4 * m.words) en in (
      ec ∙ (ap (λ (t : List ℕ). take k t) whole ∙ (ap (λ (j : ℕ). take j (drop size bytes)) words
          ∙ ap (λ (j : ℕ). take (4 * (numbers_of bytes).words) (drop j bytes)) at)),
      er ∙ (ap (λ (t : List ℕ). drop k t) whole ∙ (ap (λ (j : ℕ). drop j (drop size bytes)) words
          ∙ ap (λ (j : ℕ). drop (4 * (numbers_of bytes).words) (drop j bytes)) at)),
    )
