-- The first fault of bytes that spell no image.
use Rattle.std.specs.Prelude.{ℕ, ◌+◌, ◌*◌, ◌==◌, Bool, false, not, nat_eq, nat_le, List, [], ◌∷◌, length, slice_index}
use Rattle.std.specs.Prelude.{Option, Some, None, position}
use Rattle.std.specs.List.{starts_with}
use Rattle.std.specs.Option.{option_map, option_or}
use Rattle.alpha_words.specs.declared.Level.{Level}
use Rattle.alpha_table.specs.declared.form.Form.{Form}
use Rattle.alpha_table.specs.Decoded.{decoded}
use Rattle.alpha_table.specs.Columns.{level_of}
use Rattle.alpha_image.specs.declared.version.Version.{Version}
use Rattle.alpha_image.specs.declared.version.Version.TheVariants.{One, Two}
use Rattle.alpha_image.specs.declared.fault.ImageFault.{ImageFault}
use Rattle.alpha_image.specs.declared.fault.ImageFault.TheVariants.{Short, Magic, Field, Length, BadWord}
use Rattle.alpha_image.specs.Numbers.{Numbers}
use Rattle.alpha_image.specs.Layout.{magic}
use Rattle.alpha_image.specs.Reading.{longword_at, version_of, numbers_of, size_of, words_in, numbered_level}
use Rattle.alpha_image.specs.FirstOf.{unless, first_of}
use Rattle.alpha_image.specs.FieldTests.{least_bad_field}
use Rattle.alpha_words.specs.Levels.{level_number}

-- there is an instruction, and at the level
abbrev pub is_there : Level → Option Form → Bool
is_there level None = false
is_there level (Some i) = nat_le (level_number (level_of i)) (level_number level)

-- the place of the first word outside the table or above the level
unfoldable pub bad_place : Level → List ℕ → Option ℕ
bad_place level words = position (λ word. not (is_there level (decoded word))) words

-- that place and the word
unfoldable pub word_fault : Level → List ℕ → Option ImageFault
word_fault level words = option_map (λ place. BadWord place (slice_index words place)) (bad_place level words)

-- the least bad field
unfoldable pub field_fault : Numbers → Option ImageFault
field_fault n = option_map Field (least_bad_field n)

-- What is wrong at the front of bytes of a version, before its numbers can be read: too few bytes, another magic,
-- or more segments than there can be.
unfoldable pub image_header_fault : Version → List ℕ → Option ImageFault
image_header_fault One bytes =
    first_of
    (unless (nat_le 48 (length bytes)) (Short (length bytes))
    ∷ unless (starts_with nat_eq bytes (magic One)) Magic
    ∷ [])
image_header_fault Two bytes =
    first_of
    (unless (nat_le 40 (length bytes)) (Short (length bytes))
    ∷ unless (nat_le (longword_at 36 bytes) 8) (Field 10)
    ∷ unless (nat_le (40 + 16 * longword_at 36 bytes) (length bytes)) (Short (length bytes))
    ∷ [])

-- the fault of the form: at the front, a bad field, another length
unfoldable pub form_fault : List ℕ → Option ImageFault
form_fault bytes =
    let wanted = size_of (version_of bytes) (numbers_of bytes) in
    first_of
    (image_header_fault (version_of bytes) bytes
    ∷ field_fault (numbers_of bytes)
    ∷ unless (length bytes == wanted) (Length (length bytes) wanted)
    ∷ [])

-- the first fault of bytes
unfoldable pub first_fault : List ℕ → Option ImageFault
first_fault bytes = option_or (form_fault bytes) (word_fault (numbered_level (numbers_of bytes).level) (words_in bytes))
