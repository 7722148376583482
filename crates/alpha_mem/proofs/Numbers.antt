-- Numbers and their little-endian bytes.
use Rattle.std.proofs.Common.{◌≡◌, ℕ, zero, suc, ◌+◌, ◌-◌, ◌*◌, ◌/◌, ◌%◌, ◌^◌, ◌<◌, ◌≤◌, List, [], ◌∷◌, ◌++◌, length}
use Rattle.std.proofs.Common.{get_or, take, drop, replicate, ap, ◌∙◌, arith}
use Rattle.std.specs.Int.{w64, from_le_bytes, to_le_bytes}
use Rattle.std.proofs.lemmas.List.{drop-replicate, length-append, length-replicate}
use Rattle.std.proofs.Math.Arith.{mod-mul}
use Rattle.std.proofs.Math.Nat.{pow-suc, one-le-pow}
use Rattle.std.proofs.lemmas.Nat.{mod_below}
use Rattle.alpha_mem.specs.declared.access.Size.{Size}
use Rattle.alpha_mem.specs.declared.access.Size.TheVariants.{B1, B2, B4, B8}
use Rattle.alpha_mem.specs.Size.{size_of}
use Rattle.alpha_words.specs.Digits.{digits, number, low_bytes, little}
use Rattle.alpha_words.proofs.DigitLemmas.{number-zeros_above, bytes_low_first-digits}

from_le_bytes-eight : (b0 b1 b2 b3 b4 b5 b6 b7 : ℕ)
    → from_le_bytes w64 (b0 ∷ b1 ∷ b2 ∷ b3 ∷ b4 ∷ b5 ∷ b6 ∷ b7 ∷ [])
    ≡ little (b0 ∷ b1 ∷ b2 ∷ b3 ∷ b4 ∷ b5 ∷ b6 ∷ b7 ∷ [])
unfolding number
from_le_bytes-eight b0 b1 b2 b3 b4 b5 b6 b7 = omega arith

pub from_le_bytes-little : (bs : List ℕ) → length bs ≡ 8 → from_le_bytes w64 bs ≡ little bs
from_le_bytes-little (b0 ∷ b1 ∷ b2 ∷ b3 ∷ b4 ∷ b5 ∷ b6 ∷ b7 ∷ []) e = from_le_bytes-eight b0 b1 b2 b3 b4 b5 b6 b7
from_le_bytes-little _ e = absurd (omega arith)

-- a number of at most eight bytes, read as one of eight
pub from_le_bytes-padded : (bs : List ℕ) → length bs ≤ 8
    → from_le_bytes w64 (bs ++ drop (length bs) (replicate 8 0)) ≡ little bs
from_le_bytes-padded bs fits =
    let zeros : drop (length bs) (replicate {A = ℕ} 8 0) ≡ replicate (8 - length bs) 0 =
    drop-replicate (length bs) 8 0 in
    let sized : length (bs ++ replicate (8 - length bs) 0) ≡ 8 =
    omega (arith, length-append bs (replicate (8 - length bs) 0), length-replicate {A = ℕ} (8 - length bs) 0) in
    ap (λ t. from_le_bytes w64 (bs ++ t)) zeros
    ∙ (from_le_bytes-little _ sized ∙ number-zeros_above 256 (8 - length bs) bs)

-- a number of n digits
pub little-lt : (xs : List ℕ) → ((k : ℕ) → k < length xs → get_or xs k 0 < 256) → little xs < 256 ^ length xs
unfolding number
little-lt [] small = omega arith
little-lt (x ∷ xs) small =
    let rest = little-lt xs (λ k less. small (suc k) (omega arith)) in
    let first = small 0 (omega arith) in
    omega (arith, pow-suc 256 (length xs))

-- the lowest digit, and then the others
mod_digit : (v n : ℕ) → v % 256 ^ suc n ≡ v % 256 + 256 * (v / 256 % 256 ^ n)
mod_digit v n =
    let digits = mod-mul v {m = 256 ^ n} {c = 256} (one-le-pow n 256 (omega arith)) (omega arith) in
    ap (λ k. v % k) (pow-suc 256 n) ∙ omega arith

pub little-low_bytes : (n v : ℕ) → little (low_bytes n v) ≡ v % 256 ^ n
unfolding number digits
little-low_bytes zero v = omega arith
little-low_bytes (suc n) v =
    omega (arith, little-low_bytes n (v / 256), mod_digit v n)

-- the first bytes of a number of eight
pub low_bytes-taken : (size : Size) (v : ℕ) → take (size_of size) (to_le_bytes w64 v) ≡ low_bytes (size_of size) v
low_bytes-taken B1 v = bytes_low_first-digits 1 v
low_bytes-taken B2 v = bytes_low_first-digits 2 v
low_bytes-taken B4 v = bytes_low_first-digits 4 v
low_bytes-taken B8 v = bytes_low_first-digits 8 v

-- digits in base 256 are bytes
pub low_bytes-byte : (count n k : ℕ) → get_or (low_bytes count n) k 0 < 256
unfolding digits
low_bytes-byte zero n k = omega arith
low_bytes-byte (suc count) n zero = mod_below n 256 (omega arith)
low_bytes-byte (suc count) n (suc k) = low_bytes-byte count (n / 256) k

-- the numbers of one, two, four and eight bytes
pub little-one : (bs : List ℕ) → length bs ≡ 1 → little bs ≡ get_or bs 0 0
unfolding number
little-one (b0 ∷ []) e = omega arith
little-one _ e = absurd (omega arith)

pub little-two : (bs : List ℕ) → length bs ≡ 2 → little bs ≡ get_or bs 0 0 + get_or bs 1 0 * 256
unfolding number
little-two (b0 ∷ b1 ∷ []) e = omega arith
little-two _ e = absurd (omega arith)

pub little-four : (bs : List ℕ) → length bs ≡ 4
    → little bs ≡ get_or bs 0 0 + get_or bs 1 0 * 256 + get_or bs 2 0 * 65536 + get_or bs 3 0 * 16777216
unfolding number
little-four (b0 ∷ b1 ∷ b2 ∷ b3 ∷ []) e = omega arith
little-four _ e = absurd (omega arith)

pub little-eight : (bs : List ℕ) → length bs ≡ 8 → little bs ≡ get_or bs 0 0 + get_or bs 1 0 * 256
    + get_or bs 2 0 * 65536 + get_or bs 3 0 * 16777216 + get_or bs 4 0 * 4294967296 + get_or bs 5 0 * 1099511627776
    + get_or bs 6 0 * 281474976710656 + get_or bs 7 0 * 72057594037927936
unfolding number
little-eight (b0 ∷ b1 ∷ b2 ∷ b3 ∷ b4 ∷ b5 ∷ b6 ∷ b7 ∷ []) e = omega arith
little-eight _ e = absurd (omega arith)
