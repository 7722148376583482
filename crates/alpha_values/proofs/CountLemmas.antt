-- The library's counts of a number's digits against lists of bits.
use Rattle.std.proofs.Common.{◌≡◌, ℕ, zero, suc, ◌+◌, ◌*◌, ◌/◌, ◌%◌, ◌^◌, ◌<◌, ◌≤◌, List, [], ◌∷◌, ◌++◌, length}
use Rattle.std.proofs.Common.{reverse, sum, refl, sym, ap, ◌∙◌, ⊎_elim, arith}
use Rattle.std.specs.Int.RustNames.{count_ones}
use Rattle.std.specs.Int.{w64, leading_zeros, trailing_zeros}
use lib.Count.{ones, ones_in, count_leading_zeros, count_trailing_zeros, under}
use Rattle.std.proofs.lemmas.Nat.{ones_cat, leading_top}
use Rattle.std.proofs.lemmas.List.Sums.{sum_by-cons}
use Rattle.std.proofs.lemmas.List.{length-reverse, reverse-append}
use Rattle.std.proofs.lemmas.Bool.{cases_lt, cases_eq, cond-true, cond-false, eq-eqb, ne_eqb}
use Rattle.alpha_words.specs.Digits.{digits}
use Rattle.alpha_words.proofs.DigitLemmas.{length-digits}
use Rattle.alpha_values.specs.Bits.{bits_of, zeros_before_one}

-- ---- ones

one_digit : (d : ℕ) → d < 2 → count_ones d ≡ d
unfolding ones ones_in
one_digit zero h = refl
one_digit (suc zero) h = refl
one_digit (suc (suc d)) h = absurd (omega arith)

ones-step : (n : ℕ) → count_ones n ≡ n % 2 + count_ones (n / 2)
ones-step n =
    let whole : n ≡ n / 2 * 2 ^ 1 + n % 2 = omega arith in
    ap count_ones whole ∙ (ones_cat 1 (n / 2) (n % 2) (omega arith) ∙ omega (arith, one_digit (n % 2) (omega arith)))

sum_digits : (k n : ℕ) → n < 2 ^ k → sum (digits 2 k n) ≡ count_ones n
unfolding digits
sum_digits zero n h = let none : n ≡ 0 = omega arith in sym (ap count_ones none ∙ one_digit 0 (omega arith))
sum_digits (suc k) n h =
    let double : 2 ^ suc k ≡ 2 * 2 ^ k = omega arith in
    sum_by-cons (λ (d : ℕ). d) (n % 2) (digits 2 k (n / 2))
    ∙ omega (arith, ones-step n, sum_digits k (n / 2) (omega arith))

pub sum_bits : (n : ℕ) → n < 2 ^ 64 → count_ones n ≡ sum (bits_of n)
sum_bits n h = sym (sum_digits 64 n h)

-- ---- zeros below the lowest one

trailing_digits : (k n : ℕ) → zeros_before_one (digits 2 k n) ≡ count_trailing_zeros k n
unfolding digits zeros_before_one count_trailing_zeros
trailing_digits zero n = refl
trailing_digits (suc k) n =
    ⊎_elim (λ (e : n % 2 ≡ 0).
    cond-true _ _ _ (eq-eqb _ _ e)
    ∙ (ap suc (trailing_digits k (n / 2)) ∙ ap (λ d. under d (count_trailing_zeros k (n / 2))) (sym e)))
    (λ (e : n % 2 ≡ 0 → ⊥).
    let one : n % 2 ≡ 1 = omega arith in
    cond-false _ _ _ (ne_eqb _ _ e) ∙ ap (λ d. under d (count_trailing_zeros k (n / 2))) (sym one))
    (cases_eq (n % 2) 0)

pub trailing_bits : (n : ℕ) → trailing_zeros w64 n ≡ zeros_before_one (bits_of n)
trailing_bits n = sym (trailing_digits 64 n)

-- ---- zeros above the highest one

-- what stands behind a list that has a one doesn't count
before-some : (xs ys : List ℕ) → zeros_before_one xs < length xs → zeros_before_one (xs ++ ys) ≡ zeros_before_one xs
unfolding zeros_before_one
before-some [] ys h = absurd (omega arith)
before-some (x ∷ xs) ys h =
    ⊎_elim (λ (e : x ≡ 0).
    let is : zeros_before_one (x ∷ xs) ≡ suc (zeros_before_one xs) = cond-true _ _ _ (eq-eqb _ _ e) in
    cond-true _ _ _ (eq-eqb _ _ e) ∙ (ap suc (before-some xs ys (omega arith)) ∙ sym is))
    (λ (e : x ≡ 0 → ⊥). cond-false _ _ _ (ne_eqb _ _ e) ∙ sym (cond-false _ _ _ (ne_eqb _ _ e)))
    (cases_eq x 0)

-- what stands behind a list of zeros goes on
before-none : (xs ys : List ℕ) → zeros_before_one xs ≡ length xs
    → zeros_before_one (xs ++ ys) ≡ length xs + zeros_before_one ys
unfolding zeros_before_one
before-none [] ys h = omega arith
before-none (x ∷ xs) ys h =
    ⊎_elim (λ (e : x ≡ 0).
    let is : zeros_before_one (x ∷ xs) ≡ suc (zeros_before_one xs) = cond-true _ _ _ (eq-eqb _ _ e) in
    cond-true _ _ _ (eq-eqb _ _ e) ∙ omega (arith, before-none xs ys (omega arith)))
    (λ (e : x ≡ 0 → ⊥).
    let is : zeros_before_one (x ∷ xs) ≡ 0 = cond-false _ _ _ (ne_eqb _ _ e) in
    absurd (omega arith))
    (cases_eq x 0)

leading_zero : (k : ℕ) → count_leading_zeros k 0 ≡ k
unfolding count_leading_zeros
leading_zero zero = refl
leading_zero (suc k) = refl

leading_step : (k n : ℕ) → 0 < n → count_leading_zeros (suc k) n ≡ count_leading_zeros k (n / 2)
unfolding count_leading_zeros
leading_step k zero h = absurd (omega arith)
leading_step k (suc n) h = refl

length-digits_up : (k n : ℕ) → length (reverse (digits 2 k n)) ≡ k
length-digits_up k n = length-reverse (digits 2 k n) ∙ length-digits 2 k n

-- the lowest bit behind those above it
lowest_last : (k n : ℕ) → reverse (digits 2 (suc k) n) ≡ reverse (digits 2 k (n / 2)) ++ (n % 2 ∷ [])
unfolding digits
lowest_last k n = reverse-append (n % 2 ∷ []) (digits 2 k (n / 2))

one_zero : (d : ℕ) → d ≡ 0 → zeros_before_one (d ∷ []) ≡ 1
unfolding zeros_before_one
one_zero d e = cond-true _ _ _ (eq-eqb _ _ e)

no_zero : (d : ℕ) → d ≡ 1 → zeros_before_one (d ∷ []) ≡ 0
unfolding zeros_before_one
no_zero d e = cond-false _ _ _ (ne_eqb d 0 (λ z. omega arith))

leading_none : (n : ℕ) → 0 ≡ count_leading_zeros 0 n
unfolding count_leading_zeros
leading_none n = refl

no_bits : (n : ℕ) → zeros_before_one (reverse (digits 2 0 n)) ≡ 0
unfolding digits zeros_before_one
no_bits n = refl

leading_digits : (k n : ℕ) → n < 2 ^ k → zeros_before_one (reverse (digits 2 k n)) ≡ count_leading_zeros k n
leading_digits zero n h = no_bits n ∙ leading_none n
leading_digits (suc k) n h =
    let m = n / 2 in
    let xs = reverse (digits 2 k m) in
    let double : 2 ^ suc k ≡ 2 * 2 ^ k = omega arith in
    let above : zeros_before_one xs ≡ count_leading_zeros k m = leading_digits k m (omega arith) in
    let long : length xs ≡ k = length-digits_up k m in
    ap zeros_before_one (lowest_last k n)
    ∙ ⊎_elim (λ (some : 0 < m).
    let top = leading_top k m some (omega arith) in
    before-some xs (n % 2 ∷ []) (omega (arith, top.1)) ∙ (above ∙ sym (leading_step k n (omega arith))))
    (λ (none : m ≤ 0).
    let zero_above : m ≡ 0 = omega arith in
    let all : zeros_before_one xs ≡ length xs = omega (arith, leading_zero k, ap (count_leading_zeros k) zero_above) in
    ⊎_elim (λ (e : n ≡ 0).
    let low : n % 2 ≡ 0 = omega arith in
    omega (
      arith,
      before-none xs (n % 2 ∷ []) all,
      one_zero (n % 2) low,
      leading_zero (suc k),
      ap (count_leading_zeros (suc k)) e,
    ))
    (λ (e : n ≡ 0 → ⊥).
    let low : n % 2 ≡ 1 = omega arith in
    omega (
      arith,
      before-none xs (n % 2 ∷ []) all,
      no_zero (n % 2) low,
      leading_step k n (omega arith),
      leading_zero k,
      ap (count_leading_zeros k) zero_above,
    ))
    (cases_eq n 0))
    (cases_lt 0 m)

pub leading_bits : (n : ℕ) → n < 2 ^ 64 → leading_zeros w64 n ≡ zeros_before_one (reverse (bits_of n))
leading_bits n h = sym (leading_digits 64 n h)
