-- Numbers of two bytes, and one byte: what is read is what was written, and the other way round.
use Rattle.std.proofs.Common.{◌≡◌, ℕ, ◌+◌, ◌^◌, ◌<◌, ◌≤◌, List, [], ◌∷◌, ◌++◌, length, take, drop, slice_index, refl}
use Rattle.std.proofs.Common.{sym, ap, ◌∙◌, arith}
use Rattle.std.proofs.lemmas.List.{drop-drop, take-append-drop, length-drop}
use Rattle.byteorder.specs.Endian.{little_from}
use Rattle.byteorder.specs.Numbers.{little_from-lt, little_number-reads_back}
use Rattle.alpha_image.proofs.LittleEndianNumbers.{IsBytes, IsBytes-drop, bytes_low_first-little_from}
use Rattle.alpha_link.specs.Bytes.{halfword, halfword_at}

pub length-halfword : (n : ℕ) → length (halfword n) ≡ 2
unfolding halfword
length-halfword n = refl

pub halfword_at-lt : (offset : ℕ) (bytes : List ℕ) → IsBytes bytes → halfword_at offset bytes < 2 ^ 16
unfolding halfword_at
halfword_at-lt offset bytes fits = little_from-lt 0 2 (drop offset bytes) (IsBytes-drop offset bytes fits)

pub halfword_at-front : (bytes : List ℕ) (offset n : ℕ) (rest : List ℕ) → drop offset bytes ≡ halfword n ++ rest
    → n < 2 ^ 16 → halfword_at offset bytes ≡ n
unfolding halfword halfword_at
halfword_at-front bytes offset n rest e small =
    ap (λ (t : List ℕ). little_from 0 2 t) e ∙ little_number-reads_back 2 n rest small

halfword-halfword_at : (offset : ℕ) (bytes : List ℕ) → IsBytes bytes → offset + 2 ≤ length bytes
    → halfword (halfword_at offset bytes) ≡ take 2 (drop offset bytes)
unfolding halfword halfword_at
halfword-halfword_at offset bytes fits long =
    bytes_low_first-little_from 2 (drop offset bytes) (IsBytes-drop offset bytes fits)
    (omega (arith, length-drop offset bytes))

pub drop-halfword : (bytes : List ℕ) (offset next : ℕ) → IsBytes bytes → next ≤ length bytes → next ≡ offset + 2
    → drop offset bytes ≡ halfword (halfword_at offset bytes) ++ drop next bytes
drop-halfword bytes offset next fits long at =
    sym (take-append-drop 2 (drop offset bytes))
    ∙ (ap (λ (t : List ℕ). t ++ drop 2 (drop offset bytes)) (sym (halfword-halfword_at offset bytes fits (omega arith)))
    ∙ ap (λ (t : List ℕ). halfword (halfword_at offset bytes) ++ t)
    (drop-drop 2 offset bytes ∙ ap (λ (k : ℕ). drop k bytes) (sym at)))

-- the first byte, and those behind it
pub first_byte : (bytes : List ℕ) → 1 ≤ length bytes → bytes ≡ slice_index bytes 0 ∷ drop 1 bytes
first_byte [] h = absurd (omega arith)
first_byte (b ∷ bytes) h = refl
