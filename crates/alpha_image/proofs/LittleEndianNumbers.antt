-- Numbers as little-endian bytes: what is read is what was written, and the other way round.
use Rattle.std.proofs.Common.{◌≡◌, ℕ, zero, suc, ◌+◌, ◌*◌, ◌/◌, ◌%◌, ◌^◌, ◌<◌, ◌≤◌, List, [], ◌∷◌, ◌++◌, length, get_or}
use Rattle.std.proofs.Common.{take, drop, inl, inr, refl, sym, ap, ◌∙◌, arith}
use Rattle.std.specs.Int.{byte_at, bytes_low_first}
use Rattle.std.proofs.Math.Nat.{div-div-eq-div-mul, pow-succ'}
use Rattle.std.proofs.lemmas.List.{drop-drop, take-append-drop, get_or-drop, get_or-take, get_or_past, length-take}
use Rattle.std.proofs.lemmas.List.{length-drop}
use Rattle.std.proofs.lemmas.Bool.{cases_lt}
use Rattle.byteorder.specs.Endian.{little_from}
use Rattle.byteorder.specs.Numbers.{little_from-cons, little_from-lt, little_number-reads_back}
use Rattle.alpha_image.specs.Layout.{quadword, longword}
use Rattle.alpha_image.specs.Reading.{quadword_at, longword_at}

abbrev pub IsBytes : List ℕ → Type 0
IsBytes bytes = (i : ℕ) → get_or bytes i 0 < 256

pub IsBytes-drop : (n : ℕ) (bytes : List ℕ) → IsBytes bytes → IsBytes (drop n bytes)
IsBytes-drop n bytes h i = rw get_or-drop (h (n + i))

pub IsBytes-take : (n : ℕ) (bytes : List ℕ) → IsBytes bytes → IsBytes (take n bytes)
IsBytes-take n bytes h i =
    elim (cases_lt i n) [
      | inl lt ↦ rw (get_or-take n bytes i 0 lt) (h i)
      | inr le ↦ rw (get_or_past (take n bytes) i 0 (omega (arith, length-take n bytes))) (omega arith)
    ]

pub IsBytes-rest : (b : ℕ) (bytes : List ℕ) → IsBytes (b ∷ bytes) → IsBytes bytes
IsBytes-rest b bytes h i = h (suc i)

-- the byte above the lowest is a byte of what is above the lowest
byte_at-above : (i b y : ℕ) → b < 256 → byte_at (suc i) (b + 256 * y) ≡ byte_at i y
byte_at-above zero b y small = omega arith
byte_at-above (suc i) b y small =
    let high : (b + 256 * y) / 256 ≡ y = omega arith in
    let power : 256 ^ suc (suc i) ≡ 256 * 256 ^ suc i = pow-succ' 256 (suc i) in
    ap (λ (p : ℕ). (b + 256 * y) / p % 256) power
    ∙ ap (λ (q : ℕ). q % 256) (sym (div-div-eq-div-mul (b + 256 * y) 256 (256 ^ suc i)))
    ∙ ap (λ (q : ℕ). q / 256 ^ suc i % 256) high

bytes_low_first-above : (k i b y : ℕ) → b < 256 → bytes_low_first (suc i) k (b + 256 * y) ≡ bytes_low_first i k y
bytes_low_first-above zero i b y small = refl
bytes_low_first-above (suc k) i b y small =
    rw (byte_at-above i b y small, bytes_low_first-above k (suc i) b y small) refl

-- the bytes of the number that bytes make
pub bytes_low_first-little_from : (n : ℕ) (bytes : List ℕ) → IsBytes bytes → n ≤ length bytes
    → bytes_low_first 0 n (little_from 0 n bytes) ≡ take n bytes
bytes_low_first-little_from zero bytes fits long = refl
bytes_low_first-little_from (suc n) [] fits long = absurd (omega arith)
bytes_low_first-little_from (suc n) (b ∷ bytes) fits long =
    let y = little_from 0 n bytes in
    let small : b < 256 = fits 0 in
    let moved = little_from-cons 0 n b bytes in
    let lowest : (b + 256 * y) % 256 ≡ b = omega arith in
    rw (
      moved,
      lowest,
      bytes_low_first-above n 0 b y small,
      bytes_low_first-little_from n bytes (IsBytes-rest b bytes fits) (omega arith),
    ) refl

pub length-longword : (n : ℕ) → length (longword n) ≡ 4
unfolding longword
length-longword n = refl

pub quadword-quadword_at : (offset : ℕ) (bytes : List ℕ) → IsBytes bytes → offset + 8 ≤ length bytes
    → quadword (quadword_at offset bytes) ≡ take 8 (drop offset bytes)
unfolding quadword quadword_at
quadword-quadword_at offset bytes fits long =
    bytes_low_first-little_from 8 (drop offset bytes) (IsBytes-drop offset bytes fits)
    (omega (arith, length-drop offset bytes))

pub longword-longword_at : (offset : ℕ) (bytes : List ℕ) → IsBytes bytes → offset + 4 ≤ length bytes
    → longword (longword_at offset bytes) ≡ take 4 (drop offset bytes)
unfolding longword longword_at
longword-longword_at offset bytes fits long =
    bytes_low_first-little_from 4 (drop offset bytes) (IsBytes-drop offset bytes fits)
    (omega (arith, length-drop offset bytes))

pub quadword_at-lt : (offset : ℕ) (bytes : List ℕ) → IsBytes bytes → quadword_at offset bytes < 2 ^ 64
unfolding quadword_at
quadword_at-lt offset bytes fits = little_from-lt 0 8 (drop offset bytes) (IsBytes-drop offset bytes fits)

pub longword_at-lt : (offset : ℕ) (bytes : List ℕ) → IsBytes bytes → longword_at offset bytes < 2 ^ 32
unfolding longword_at
longword_at-lt offset bytes fits = little_from-lt 0 4 (drop offset bytes) (IsBytes-drop offset bytes fits)

-- the numbers at the front of what stands from an offset on
pub quadword_at-front : (bytes : List ℕ) (offset n : ℕ) (rest : List ℕ) → drop offset bytes ≡ quadword n ++ rest
    → n < 2 ^ 64 → quadword_at offset bytes ≡ n
unfolding quadword quadword_at
quadword_at-front bytes offset n rest e small =
    ap (λ (t : List ℕ). little_from 0 8 t) e ∙ little_number-reads_back 8 n rest small

pub longword_at-front : (bytes : List ℕ) (offset n : ℕ) (rest : List ℕ) → drop offset bytes ≡ longword n ++ rest
    → n < 2 ^ 32 → longword_at offset bytes ≡ n
unfolding longword longword_at
longword_at-front bytes offset n rest e small =
    ap (λ (t : List ℕ). little_from 0 4 t) e ∙ little_number-reads_back 4 n rest small

-- a number, and what stands behind it
pub drop-quadword : (bytes : List ℕ) (offset next : ℕ) → IsBytes bytes → next ≤ length bytes → next ≡ offset + 8
    → drop offset bytes ≡ quadword (quadword_at offset bytes) ++ drop next bytes
drop-quadword bytes offset next fits long at =
    sym (take-append-drop 8 (drop offset bytes))
    ∙ (ap (λ (t : List ℕ). t ++ drop 8 (drop offset bytes)) (sym (quadword-quadword_at offset bytes fits (omega arith)))
    ∙ ap (λ (t : List ℕ). quadword (quadword_at offset bytes) ++ t)
    (drop-drop 8 offset bytes ∙ ap (λ (k : ℕ). drop k bytes) (sym at)))

pub drop-longword : (bytes : List ℕ) (offset next : ℕ) → IsBytes bytes → next ≤ length bytes → next ≡ offset + 4
    → drop offset bytes ≡ longword (longword_at offset bytes) ++ drop next bytes
drop-longword bytes offset next fits long at =
    sym (take-append-drop 4 (drop offset bytes))
    ∙ (ap (λ (t : List ℕ). t ++ drop 4 (drop offset bytes)) (sym (longword-longword_at offset bytes fits (omega arith)))
    ∙ ap (λ (t : List ℕ). longword (longword_at offset bytes) ++ t)
    (drop-drop 4 offset bytes ∙ ap (λ (k : ℕ). drop k bytes) (sym at)))
