-- Numbers and their digits in a base that is a power of 2.
use Rattle.std.proofs.Common.{◌≡◌, ℕ, zero, suc, ◌+◌, ◌*◌, ◌/◌, ◌%◌, ◌^◌, ◌<◌, ◌≤◌, ◌∙◌, List, [], ◌∷◌, ◌++◌, length}
use Rattle.std.proofs.Common.{take, drop, replicate, refl, ap, sym, arith}
use Rattle.std.proofs.lemmas.Nat.{mod-pow-add, shr_high, mod_low, pow_pos, pow-add, mod_below, shr-shr}
use Rattle.std.proofs.Math.Nat.{pow-suc, div-div-eq-div-mul}
use Rattle.std.specs.Int.{bytes_low_first}
use Rattle.alpha_words.specs.Digits.{digits, number}

-- each digit is below the base
abbrev pub AllBelow : ℕ → List ℕ → Type 0
AllBelow base [] = Unit {0}
AllBelow base (d ∷ ds) = (d < base) × AllBelow base ds

pub mod_no_digits : (w n : ℕ) → n % 2 ^ (w * 0) ≡ 0
mod_no_digits w n =
    let none : w * 0 ≡ 0 = omega arith in
    ap (λ k. n % 2 ^ k) none ∙ omega arith

pub div_no_digits : (w n : ℕ) → n / 2 ^ (w * 0) ≡ n
div_no_digits w n =
    let none : w * 0 ≡ 0 = omega arith in
    ap (λ k. n / 2 ^ k) none ∙ omega arith

-- a digit more at the low end
pub mod_digit_more : (w count d n : ℕ) → d < 2 ^ w
    → (d + 2 ^ w * n) % 2 ^ (w * suc count) ≡ d + 2 ^ w * (n % 2 ^ (w * count))
mod_digit_more w count d n small =
    let more : w * suc count ≡ w * count + w = omega arith in
    let order : d + 2 ^ w * n ≡ n * 2 ^ w + d = omega arith in
    ap (λ k. (d + 2 ^ w * n) % 2 ^ k) more
    ∙ (ap (λ m. m % 2 ^ (w * count + w)) order
    ∙ omega (
      arith,
      mod-pow-add (n * 2 ^ w + d) (w * count) w,
      shr_high n w d small,
      mod_low n w d small,
      ap (λ m. m % 2 ^ (w * count) * 2 ^ w) (shr_high n w d small),
    ))

pub div_digit_more : (w count d n : ℕ) → d < 2 ^ w → (d + 2 ^ w * n) / 2 ^ (w * suc count) ≡ n / 2 ^ (w * count)
div_digit_more w count d n small =
    let more : w * suc count ≡ w + w * count = omega arith in
    let order : d + 2 ^ w * n ≡ n * 2 ^ w + d = omega arith in
    ap (λ k. (d + 2 ^ w * n) / 2 ^ k) more
    ∙ (sym (shr-shr (d + 2 ^ w * n) w (w * count))
    ∙ ap (λ m. m / 2 ^ (w * count)) (ap (λ m. m / 2 ^ w) order ∙ shr_high n w d small))

pub number-digits : (w count n : ℕ) → number (2 ^ w) (digits (2 ^ w) count n) ≡ n % 2 ^ (w * count)
unfolding number digits
number-digits w zero n = sym (mod_no_digits w n)
number-digits w (suc count) n =
    let more : w * suc count ≡ w * count + w = omega arith in
    let e = ap (λ m. 2 ^ w * m) (number-digits w count (n / 2 ^ w)) in
    omega (arith, ap (λ k. n % 2 ^ k) more, mod-pow-add n (w * count) w, e)

pub digits-AllBelow : (w count n : ℕ) → AllBelow (2 ^ w) (digits (2 ^ w) count n)
unfolding digits
digits-AllBelow w zero n = tt
digits-AllBelow w (suc count) n = (mod_below n (2 ^ w) (pow_pos w), digits-AllBelow w count (n / 2 ^ w))

pub length-digits : (base count n : ℕ) → length (digits base count n) ≡ count
unfolding digits
length-digits base zero n = refl
length-digits base (suc count) n = ap (λ k. suc k) (length-digits base count (n / base))

pub number-take : (w count : ℕ) (ds : List ℕ) → AllBelow (2 ^ w) ds
    → number (2 ^ w) (take count ds) ≡ number (2 ^ w) ds % 2 ^ (w * count)
unfolding number
number-take w zero ds h = sym (mod_no_digits w (number (2 ^ w) ds))
number-take w (suc count) [] h = omega (arith, pow_pos (w * suc count))
number-take w (suc count) (d ∷ ds) h =
    omega (arith, mod_digit_more w count d (number (2 ^ w) ds) h.0, ap (λ m. 2 ^ w * m) (number-take w count ds h.1))

pub number-drop : (w count : ℕ) (ds : List ℕ) → AllBelow (2 ^ w) ds
    → number (2 ^ w) (drop count ds) ≡ number (2 ^ w) ds / 2 ^ (w * count)
unfolding number
number-drop w zero ds h = sym (div_no_digits w (number (2 ^ w) ds))
number-drop w (suc count) [] h = omega (arith, pow_pos (w * suc count))
number-drop w (suc count) (d ∷ ds) h =
    number-drop w count ds h.1 ∙ sym (div_digit_more w count d (number (2 ^ w) ds) h.0)

-- the digits of the number that digits write
pub digits-number : (w count : ℕ) (ds : List ℕ) → AllBelow (2 ^ w) ds → count ≤ length ds
    → digits (2 ^ w) count (number (2 ^ w) ds) ≡ take count ds
unfolding number digits
digits-number w zero ds h enough = refl
digits-number w (suc count) [] h enough = absurd (omega arith)
digits-number w (suc count) (d ∷ ds) h enough =
    let n = number (2 ^ w) ds in
    let order : d + 2 ^ w * n ≡ n * 2 ^ w + d = omega arith in
    let low : (d + 2 ^ w * n) % 2 ^ w ≡ d = ap (λ m. m % 2 ^ w) order ∙ mod_low n w d h.0 in
    let high : (d + 2 ^ w * n) / 2 ^ w ≡ n = ap (λ m. m / 2 ^ w) order ∙ shr_high n w d h.0 in
    ap (λ x. x ∷ digits (2 ^ w) count ((d + 2 ^ w * n) / 2 ^ w)) low
    ∙ ap (λ xs. d ∷ xs) (ap (λ m. digits (2 ^ w) count m) high ∙ digits-number w count ds h.1 (omega arith))

-- zeros below and above
pub number-zeros_below : (w count : ℕ) (ds : List ℕ)
    → number (2 ^ w) (replicate count 0 ++ ds) ≡ 2 ^ (w * count) * number (2 ^ w) ds
unfolding number
number-zeros_below w zero ds =
    let none : w * 0 ≡ 0 = omega arith in
    sym (ap (λ k. 2 ^ k * number (2 ^ w) ds) none ∙ omega arith)
number-zeros_below w (suc count) ds =
    let more : w * suc count ≡ w + w * count = omega arith in
    let low = ap (λ m. 2 ^ w * m) (number-zeros_below w count ds) in
    let high = ap (λ m. m * number (2 ^ w) ds) (ap (λ k. 2 ^ k) more ∙ pow-add 2 w (w * count)) in
    omega arith

pub number-zeros_above : (base count : ℕ) (ds : List ℕ) → number base (ds ++ replicate count 0) ≡ number base ds
unfolding number
number-zeros_above base zero [] = refl
number-zeros_above base (suc count) [] = omega (arith, ap (λ m. base * m) (number-zeros_above base count []))
number-zeros_above base count (d ∷ ds) = ap (λ m. d + base * m) (number-zeros_above base count ds)

pub zeros-AllBelow : (base count : ℕ) → 0 < base → AllBelow base (replicate count 0)
zeros-AllBelow base zero h = tt
zeros-AllBelow base (suc count) h = (h, zeros-AllBelow base count h)

pub AllBelow-append : (base : ℕ) (xs ys : List ℕ) → AllBelow base xs → AllBelow base ys → AllBelow base (xs ++ ys)
AllBelow-append base [] ys h k = k
AllBelow-append base (x ∷ xs) ys h k = (h.0, AllBelow-append base xs ys h.1 k)

pub AllBelow-take : (base count : ℕ) (xs : List ℕ) → AllBelow base xs → AllBelow base (take count xs)
AllBelow-take base zero xs h = tt
AllBelow-take base (suc count) [] h = tt
AllBelow-take base (suc count) (x ∷ xs) h = (h.0, AllBelow-take base count xs h.1)

pub AllBelow-drop : (base count : ℕ) (xs : List ℕ) → AllBelow base xs → AllBelow base (drop count xs)
AllBelow-drop base zero xs h = h
AllBelow-drop base (suc count) [] h = tt
AllBelow-drop base (suc count) (x ∷ xs) h = AllBelow-drop base count xs h.1

-- the library's bytes of a number from place i + 1 on
higher_bytes : (k i v : ℕ) → bytes_low_first (suc i) k v ≡ digits 256 k (v / 256 ^ suc i)
unfolding digits
higher_bytes zero i v = refl
higher_bytes (suc k) i v =
    let up : v / 256 ^ suc i / 256 ≡ v / 256 ^ suc (suc i) =
    div-div-eq-div-mul v (256 ^ suc i) 256 ∙ ap (λ n. v / n) (sym (pow-suc 256 (suc i))) in
    ap (λ xs. v / 256 ^ suc i % 256 ∷ xs) (higher_bytes k (suc i) v ∙ ap (digits 256 k) (sym up))

-- the library's bytes of a number
pub bytes_low_first-digits : (k v : ℕ) → bytes_low_first 0 k v ≡ digits 256 k v
unfolding digits
bytes_low_first-digits zero v = refl
bytes_low_first-digits (suc k) v = ap (λ xs. v % 256 ∷ xs) (higher_bytes k 0 v)
