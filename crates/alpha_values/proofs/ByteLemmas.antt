-- The byte forms are operations on a list of bytes.
use Rattle.std.proofs.Common.{◌≡◌, ℕ, zero, suc, ◌+◌, ◌-◌, ◌*◌, ◌/◌, ◌%◌, ◌^◌, ◌<◌, ◌≤◌, ◌∙◌, List, ◌++◌, length, take}
use Rattle.std.proofs.Common.{drop, replicate, refl, ap, sym, arith, bit_and}
use Rattle.std.proofs.lemmas.List.{length-append, length-replicate, length-drop, take_all}
use Rattle.std.proofs.lemmas.Nat.{and_mask, pow_pos, mod_below, one_shl, shl_whole, pow_below}
use Rattle.std.proofs.lemmas.Nat.Bits.{ones_shr}
use Rattle.std.proofs.Math.Nat.{mod-eq_of_lt}
use Rattle.std.proofs.Math.Pow.{mod-mod-pow}
use Rattle.alpha_words.specs.Digits.{digits, number}
use Rattle.alpha_values.specs.Bits.{bytes_of}
use Rattle.alpha_values.specs.Op.{complement, extracted_low, extracted_high, inserted, byte_mask, zapped}
use Rattle.alpha_values.specs.Lists.{inverted, in_sixteen, bytes_from, bytes_above, low_placed, high_placed, cleared}
use Rattle.alpha_values.specs.Lists.{low_cleared, high_cleared}
use Rattle.alpha_words.proofs.DigitLemmas.{AllBelow, number-digits, digits-AllBelow, number-take, number-drop}
use Rattle.alpha_words.proofs.DigitLemmas.{digits-number, number-zeros_below, number-zeros_above, zeros-AllBelow}
use Rattle.alpha_words.proofs.DigitLemmas.{AllBelow-append, AllBelow-take, AllBelow-drop}
use Rattle.alpha_values.proofs.PairLemmas.{digits-inverted}

number-bytes : (a : ℕ) → a < 2 ^ 64 → number 256 (bytes_of a) ≡ a
number-bytes a small = number-digits 8 8 a ∙ mod-eq_of_lt small

bytes-AllBelow : (a : ℕ) → AllBelow 256 (bytes_of a)
bytes-AllBelow a = digits-AllBelow 8 8 a

-- a shorter mask after one of 64 bits
mod-mod_bytes : (n size : ℕ) → size ≤ 8 → n % 2 ^ 64 % 2 ^ (8 * size) ≡ n % 2 ^ (8 * size)
mod-mod_bytes n size within =
    let whole : 64 ≡ (64 - 8 * size) + 8 * size = omega arith in
    ap (λ k. n % 2 ^ k % 2 ^ (8 * size)) whole ∙ mod-mod-pow n (64 - 8 * size) (8 * size)

pub bit_and-low_mask : (a size : ℕ) → size ≤ 8
    → bit_and a (18446744073709551615 / 2 ^ (64 - 8 * size)) ≡ a % 2 ^ (8 * size)
bit_and-low_mask a size within =
    let left : 64 - (64 - 8 * size) ≡ 8 * size = omega arith in
    ap (bit_and a) (ones_shr 64 (64 - 8 * size) (omega arith) ∙ ap (λ k. 2 ^ k - 1) left) ∙ and_mask a (8 * size)

pub extracted_low-bytes_from : (size a b : ℕ) → a < 2 ^ 64 → extracted_low size a b ≡ bytes_from size a b
unfolding bytes_from
extracted_low-bytes_from size a b small =
    let n = b % 8 in
    sym (number-take 8 size (drop n (bytes_of a)) (AllBelow-drop 256 n _ (bytes-AllBelow a))
    ∙ ap (λ m. m % 2 ^ (8 * size))
    (number-drop 8 n (bytes_of a) (bytes-AllBelow a) ∙ ap (λ m. m / 2 ^ (8 * n)) (number-bytes a small)))

pub extracted_high-bytes_above : (size a b : ℕ) → size ≤ 8 → a < 2 ^ 64 → extracted_high size a b ≡ bytes_above size a b
unfolding bytes_above
extracted_high-bytes_above size a b within small =
    let up = (8 - b % 8) % 8 in
    let below =
    AllBelow-append 256 (replicate up 0) (bytes_of a) (zeros-AllBelow 256 up (omega arith)) (bytes-AllBelow a) in
    let moved : a * 2 ^ (8 * up) ≡ 2 ^ (8 * up) * a = omega arith in
    mod-mod_bytes (a * 2 ^ (8 * up)) size within
    ∙ sym (number-take 8 size (replicate up 0 ++ bytes_of a) below
    ∙ ap (λ m. m % 2 ^ (8 * size))
    (number-zeros_below 8 up (bytes_of a) ∙ (ap (λ m. 2 ^ (8 * up) * m) (number-bytes a small) ∙ sym moved)))

-- the sixteen bytes as a number
number-in_sixteen : (w place : ℕ) (xs : List ℕ)
    → number (2 ^ w) (in_sixteen place xs) ≡ 2 ^ (w * place) * number (2 ^ w) xs
number-in_sixteen w place xs =
    number-zeros_above (2 ^ w) (16 - (place + length xs)) (replicate place 0 ++ xs) ∙ number-zeros_below w place xs

in_sixteen-AllBelow : (w place : ℕ) (xs : List ℕ) → AllBelow (2 ^ w) xs → AllBelow (2 ^ w) (in_sixteen place xs)
in_sixteen-AllBelow w place xs below =
    AllBelow-append (2 ^ w) (replicate place 0 ++ xs) (replicate (16 - (place + length xs)) 0)
    (AllBelow-append (2 ^ w) (replicate place 0) xs (zeros-AllBelow (2 ^ w) place (pow_pos w)) below)
    (zeros-AllBelow (2 ^ w) (16 - (place + length xs)) (pow_pos w))

low_bytes-AllBelow : (size a : ℕ) → AllBelow 256 (take size (bytes_of a))
low_bytes-AllBelow size a = AllBelow-take 256 size (bytes_of a) (bytes-AllBelow a)

number-inserted : (size a b : ℕ) → size ≤ 8
    → number 256 (in_sixteen (b % 8) (take size (bytes_of a))) ≡ inserted size a b
number-inserted size a b within =
    number-in_sixteen 8 (b % 8) (take size (bytes_of a))
    ∙ ap (λ m. 2 ^ (8 * (b % 8)) * m) (number-take 8 size (bytes_of a) (bytes-AllBelow a)
    ∙ (ap (λ m. m % 2 ^ (8 * size)) (number-digits 8 8 a) ∙ mod-mod_bytes a size within))

pub inserted-low_placed : (size a b : ℕ) → size ≤ 8 → inserted size a b % 2 ^ 64 ≡ low_placed size a b
unfolding low_placed
inserted-low_placed size a b within =
    let xs = in_sixteen (b % 8) (take size (bytes_of a)) in
    sym (number-take 8 8 xs (in_sixteen-AllBelow 8 (b % 8) (take size (bytes_of a)) (low_bytes-AllBelow size a))
    ∙ ap (λ m. m % 2 ^ 64) (number-inserted size a b within))

pub inserted-high_placed : (size a b : ℕ) → size ≤ 8 → inserted size a b / 2 ^ 64 ≡ high_placed size a b
unfolding high_placed
inserted-high_placed size a b within =
    let xs = in_sixteen (b % 8) (take size (bytes_of a)) in
    sym (number-drop 8 8 xs (in_sixteen-AllBelow 8 (b % 8) (take size (bytes_of a)) (low_bytes-AllBelow size a))
    ∙ ap (λ m. m / 2 ^ 64) (number-inserted size a b within))

pub zapped-cleared : (a b : ℕ) → zapped a b ≡ cleared (digits 2 8 b) a
unfolding zapped cleared
zapped-cleared a b = refl

pub zapped-cleared_complement : (a b : ℕ) → b < 2 ^ 64 → zapped a (complement b) ≡ cleared (inverted (digits 2 8 b)) a
zapped-cleared_complement a b small =
    zapped-cleared a (complement b) ∙ ap (λ marks. cleared marks a) (digits-inverted 8 64 b (omega arith) small)

-- ---- the marks of MSK

number-ones : (count : ℕ) → number 2 (replicate count 1) + 1 ≡ 2 ^ count
unfolding number
number-ones zero = refl
number-ones (suc count) = omega (arith, number-ones count)

ones-AllBelow : (count : ℕ) → AllBelow 2 (replicate count 1)
ones-AllBelow zero = tt
ones-AllBelow (suc count) = (omega arith, ones-AllBelow count)

number-marks : (size b : ℕ) → number 2 (in_sixteen (b % 8) (replicate size 1)) ≡ byte_mask size b
number-marks size b =
    let n = b % 8 in
    let once : 1 * n ≡ n = omega arith in
    let ones : number 2 (replicate size 1) ≡ 2 ^ size - 1 = omega (arith, number-ones size) in
    number-in_sixteen 1 n (replicate size 1)
    ∙ (ap (λ k. 2 ^ k * number 2 (replicate size 1)) once ∙ ap (λ m. 2 ^ n * m) ones)

length-marks : (size b : ℕ) → size ≤ 8 → length (in_sixteen (b % 8) (replicate size 1)) ≡ 16
length-marks size b within = simp (length-append, length-replicate) (omega arith)

marks-AllBelow : (size b : ℕ) → AllBelow 2 (in_sixteen (b % 8) (replicate size 1))
marks-AllBelow size b = in_sixteen-AllBelow 1 (b % 8) (replicate size 1) (ones-AllBelow size)

pub zapped-low_cleared : (size a b : ℕ) → size ≤ 8 → zapped a (byte_mask size b) ≡ low_cleared size a b
unfolding low_cleared
zapped-low_cleared size a b within =
    let marks = in_sixteen (b % 8) (replicate size 1) in
    let long = length-marks size b within in
    zapped-cleared a (byte_mask size b)
    ∙ ap (λ xs. cleared xs a)
    (ap (λ m. digits 2 8 m) (sym (number-marks size b)) ∙ digits-number 1 8 marks (marks-AllBelow size b) (omega arith))

pub zapped-high_cleared : (size a b : ℕ) → size ≤ 8 → zapped a (byte_mask size b / 2 ^ 8) ≡ high_cleared size a b
unfolding high_cleared
zapped-high_cleared size a b within =
    let marks = in_sixteen (b % 8) (replicate size 1) in
    let high = drop 8 marks in
    let long : length high ≡ 8 = omega (arith, length-drop 8 marks, length-marks size b within) in
    let n : byte_mask size b / 2 ^ 8 ≡ number 2 high =
    ap (λ m. m / 2 ^ 8) (sym (number-marks size b)) ∙ sym (number-drop 1 8 marks (marks-AllBelow size b)) in
    zapped-cleared a (byte_mask size b / 2 ^ 8)
    ∙ ap (λ xs. cleared xs a)
    (ap (λ m. digits 2 8 m) n
    ∙ (digits-number 1 8 high (AllBelow-drop 2 8 marks (marks-AllBelow size b)) (omega arith)
    ∙ take_all 8 high (omega arith)))

-- the marks as the code shifts them
pub byte_mask-shifted_ones : (size b : ℕ) → size ≤ 8
    → (1 * 2 ^ size % 2 ^ 64 - 1) * 2 ^ (b % 8) % 2 ^ 64 ≡ byte_mask size b
byte_mask-shifted_ones size b within =
    let one = one_shl size 64 (omega arith) in
    let most = pow_below size 9 (omega arith) in
    let small : 2 ^ size - 1 < 2 ^ 9 = omega arith in
    ap (λ m. (m - 1) * 2 ^ (b % 8) % 2 ^ 64) one
    ∙ (shl_whole (2 ^ size - 1) 9 (b % 8) 64 small (omega arith) ∙ omega arith)

-- the bytes as the code shifts them
pub inserted-shifted_bytes : (size a b : ℕ) → size ≤ 8
    → a % 2 ^ (8 * size) * 2 ^ (8 * (b % 8)) % 2 ^ 128 ≡ inserted size a b
inserted-shifted_bytes size a b within =
    let small = mod_below a (2 ^ (8 * size)) (pow_pos (8 * size)) in
    shl_whole (a % 2 ^ (8 * size)) (8 * size) (8 * (b % 8)) 128 small (omega arith) ∙ omega arith
