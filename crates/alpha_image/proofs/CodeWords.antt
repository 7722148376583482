-- The words in a list of bytes, and the first word outside the table or above the level.
use Rattle.std.proofs.Common.{◌≡◌, ℕ, zero, suc, ◌+◌, ◌*◌, ◌-◌, ◌/◌, ◌^◌, ◌<◌, ◌≤◌, cond, ◌++◌, Bool, true, false, List}
use Rattle.std.proofs.Common.{[], ◌∷◌, length, get_or, Option, Some, None, not, refl, ap, sym, ◌∙◌, arith, slice_index}
use Rattle.std.proofs.Common.{position}
use Rattle.std.specs.List.{position_or_len, flat_map, All}
use Rattle.std.specs.Option.{option_map, IsSomeAnd}
use Rattle.std.proofs.lemmas.List.Elements.{All-from_get_or, All-get_or, All-head, All-tail}
use Rattle.std.proofs.lemmas.Bool.{ltb-false}
use Rattle.std.proofs.lemmas.List.{length-append}
use Rattle.std.proofs.Common.{ltb}
use Rattle.std.proofs.lemmas.Bool.{lt-ltb, le-ltb, le-leb}
use Rattle.std.proofs.lemmas.Bool.Decides.{nat_tests}
use Rattle.std.proofs.lemmas.List.Sums.{position_or_len_is, fails_before_first}
use Rattle.alpha_words.specs.declared.Level.{Level}
use Rattle.alpha_table.specs.declared.form.Form.{Form}
use Rattle.alpha_table.specs.Decoded.{decoded}
use Rattle.alpha_table.specs.Columns.{level_of}
use Rattle.alpha_table.proofs.Levels.{level_in-decoded}
use Rattle.alpha_image.specs.declared.fault.ImageFault.TheVariants.{BadWord}
use Rattle.alpha_image.specs.Layout.{longword}
use Rattle.alpha_image.specs.Reading.{words_of, longword_at}
use Rattle.alpha_words.specs.Levels.{level_number}
use Rattle.alpha_image.specs.Parts.{IsCodeWord, IsWithin}
use Rattle.alpha_image.proofs.LittleEndianNumbers.{IsBytes, longword_at-lt, IsBytes-take, longword-longword_at}
use Rattle.alpha_image.proofs.LittleEndianNumbers.{longword_at-front}
use Rattle.alpha_image.proofs.LittleEndianNumbers.{length-longword}
use Rattle.alpha_image.specs.ImageFault.{is_there, bad_place, word_fault}

pub length-words_of : (bytes : List ℕ) → length (words_of bytes) ≡ length bytes / 4
length-words_of [] = refl
length-words_of (a ∷ []) = omega arith
length-words_of (a ∷ b ∷ []) = omega arith
length-words_of (a ∷ b ∷ c ∷ []) = omega arith
length-words_of (a ∷ b ∷ c ∷ d ∷ rest) = omega (arith, length-words_of rest)

-- the number in four bytes reads no byte behind them
longword_at-cells : (a b c d : ℕ) (rest : List ℕ)
    → longword_at 0 (a ∷ b ∷ c ∷ d ∷ []) ≡ longword_at 0 (a ∷ b ∷ c ∷ d ∷ rest)
unfolding longword_at
longword_at-cells a b c d rest = refl

longword_at-later : (a b c d n : ℕ) (rest : List ℕ)
    → longword_at (suc (suc (suc (suc n)))) (a ∷ b ∷ c ∷ d ∷ rest) ≡ longword_at n rest
unfolding longword_at
longword_at-later a b c d n rest = refl

pub get_or-words_of : (bytes : List ℕ) (place : ℕ) → 4 * place + 4 ≤ length bytes
    → get_or (words_of bytes) place 0 ≡ longword_at (4 * place) bytes
get_or-words_of [] place h = absurd (omega arith)
get_or-words_of (a ∷ []) place h = absurd (omega arith)
get_or-words_of (a ∷ b ∷ []) place h = absurd (omega arith)
get_or-words_of (a ∷ b ∷ c ∷ []) place h = absurd (omega arith)
get_or-words_of (a ∷ b ∷ c ∷ d ∷ rest) zero h = longword_at-cells a b c d rest
get_or-words_of (a ∷ b ∷ c ∷ d ∷ rest) (suc place) h =
    let four : 4 * suc place ≡ suc (suc (suc (suc (4 * place)))) = omega arith in
    get_or-words_of rest place (omega arith) ∙ sym (longword_at-later a b c d (4 * place) rest)
    ∙ ap (λ (n : ℕ). longword_at n (a ∷ b ∷ c ∷ d ∷ rest)) (sym four)

abbrev outside : Level → ℕ → Bool
outside level word = not (is_there level (decoded word))

-- each word below a place is in the table at the level
abbrev pub AreInsideLevel : Level → List ℕ → ℕ → Type 0
AreInsideLevel level words place = (k : ℕ) → k < place → is_there level (decoded (get_or words k 0)) ≡ true

pub word_fault-first : (level : Level) (words : List ℕ) (place : ℕ) → place < length words
    → AreInsideLevel level words place → is_there level (decoded (get_or words place 0)) ≡ false
    → word_fault level words ≡ Some (BadWord place (get_or words place 0))
unfolding word_fault bad_place
word_fault-first level words place below inside here =
    let e =
    position_or_len_is (outside level) words place 0 (omega arith) (λ k h. ap not (inside k h)) (λ h. ap not here) in
    let t : ltb place (length words) ≡ true = lt-ltb _ _ below in
    rw (e, t) refl

pub word_fault-none : (level : Level) (words : List ℕ) → AreInsideLevel level words (length words)
    → word_fault level words ≡ None
unfolding word_fault bad_place
word_fault-none level words inside =
    let e = position_or_len_is (outside level) words (length words) 0 (omega arith) (λ k h. ap not (inside k h))
    (λ h. absurd (omega arith)) in
    let t : ltb (length words) (length words) ≡ false = le-ltb _ _ (omega arith) in
    rw (e, t) refl

-- an option that is mapped to nothing is nothing
pub option_map-none : {A B : Type 0} (f : A → B) (o : Option A) → option_map f o ≡ None → o ≡ None
option_map-none f None e = refl
option_map-none f (Some x) e = absurd cc

chosen_none : {A : Type 0} (b : Bool) (x : A) → cond b (Some x) None ≡ None → b ≡ false
chosen_none true x e = absurd cc
chosen_none false x e = refl

code_word_from_test : (level : Level) (o : Option Form) → not (is_there level o) ≡ false
    → IsSomeAnd o (λ i. IsWithin (level_of i) level)
code_word_from_test level None e = absurd cc
code_word_from_test level (Some i) e = grind (arith, nat_tests)

test_from_code_word : (level : Level) (o : Option Form) → IsSomeAnd o (λ i. IsWithin (level_of i) level)
    → is_there level o ≡ true
test_from_code_word level None e = absurd e
test_from_code_word level (Some i) e = le-leb (level_number (level_of i)) (level_number level) e

-- words without a fault are of the table, at the level
pub All-word_fault : (level : Level) (words : List ℕ) → ((k : ℕ) → k < length words → get_or words k 0 < 2 ^ 32)
    → word_fault level words ≡ None → All (IsCodeWord level) words
unfolding word_fault bad_place
All-word_fault level words small e =
    let place = position_or_len (outside level) words in
    let none = option_map-none (λ (k : ℕ). BadWord k (slice_index words k)) (position (outside level) words) e in
    let past : length words ≤ place = ltb-false _ _ (chosen_none (ltb place (length words)) place none) in
    All-from_get_or (IsCodeWord level) words 0 (λ k h. (
      small k h,
      (level_in-decoded level (get_or words k 0)).1
          (code_word_from_test level (decoded (get_or words k 0))
          (fails_before_first (outside level) words k 0 (omega arith))),
    ))

-- and the other way round
pub word_fault-All : (level : Level) (words : List ℕ) → All (IsCodeWord level) words → word_fault level words ≡ None
word_fault-All level words all =
    word_fault-none level words
    (λ k h. let w = All-get_or (IsCodeWord level) words k 0 h all in
    test_from_code_word level (decoded (get_or words k 0)) ((level_in-decoded level (get_or words k 0)).0 w.1))

-- each word has 32 bits
pub words_of-lt : (bytes : List ℕ) → IsBytes bytes → (k : ℕ) → k < length (words_of bytes)
    → get_or (words_of bytes) k 0 < 2 ^ 32
words_of-lt bytes fits k h =
    rw (get_or-words_of bytes k (omega (arith, length-words_of bytes))) (longword_at-lt (4 * k) bytes fits)

pub words_of-front : (w : ℕ) (rest : List ℕ) → w < 2 ^ 32 → words_of (longword w ++ rest) ≡ w ∷ words_of rest
unfolding longword
words_of-front w rest small = ap (λ (n : ℕ). n ∷ words_of rest) (longword_at-front (longword w) 0 w [] refl small)

-- the words of four bytes each are those that the bytes were made of
pub words_of-flat_map : (level : Level) (words : List ℕ) → All (IsCodeWord level) words
    → words_of (flat_map longword words) ≡ words
words_of-flat_map level [] all = refl
words_of-flat_map level (w ∷ words) all =
    words_of-front w (flat_map longword words) (All-head (IsCodeWord level) w words all).0
    ∙ ap (λ (ws : List ℕ). w ∷ ws) (words_of-flat_map level words (All-tail (IsCodeWord level) w words all))

pub flat_map-words_of : (bytes : List ℕ) (n : ℕ) → length bytes ≡ 4 * n → IsBytes bytes
    → flat_map longword (words_of bytes) ≡ bytes
flat_map-words_of [] n len fits = refl
flat_map-words_of (a ∷ []) n len fits = absurd (omega arith)
flat_map-words_of (a ∷ b ∷ []) n len fits = absurd (omega arith)
flat_map-words_of (a ∷ b ∷ c ∷ []) n len fits = absurd (omega arith)
flat_map-words_of (a ∷ b ∷ c ∷ d ∷ rest) n len fits =
    let ih : flat_map longword (words_of rest) ≡ rest =
    flat_map-words_of rest (n - 1) (omega arith) (λ i. fits (suc (suc (suc (suc i))))) in
    let front : longword (longword_at 0 (a ∷ b ∷ c ∷ d ∷ [])) ≡ a ∷ b ∷ c ∷ d ∷ [] =
    longword-longword_at 0 (a ∷ b ∷ c ∷ d ∷ []) (IsBytes-take 4 (a ∷ b ∷ c ∷ d ∷ rest) fits) (omega arith) in
    rw (front, ih) refl

pub length-flat_map_longword : (words : List ℕ) → length (flat_map longword words) ≡ 4 * length words
length-flat_map_longword [] = refl
length-flat_map_longword (w ∷ words) =
    omega
    (arith, length-append (longword w) (flat_map longword words), length-longword w, length-flat_map_longword words)
