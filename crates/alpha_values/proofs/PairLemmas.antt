-- Operations that work on binary digits, place by place.
use Rattle.std.proofs.Common.{◌≡◌, ℕ, zero, suc, ◌+◌, ◌-◌, ◌*◌, ◌/◌, ◌%◌, ◌^◌, ◌<◌, ◌≤◌, ◌∙◌, ◌∷◌, refl, ap, sym, arith}
use Rattle.std.proofs.lemmas.Nat.{pow_pos}
use Rattle.alpha_words.specs.Digits.{digits, number}
use Rattle.alpha_values.specs.Bits.{pairwise}
use Rattle.alpha_values.specs.Lists.{inverted}

-- an operation on numbers that works bit by bit, as `f` does on bits
pub number-pairwise : (h f : ℕ → ℕ → ℕ) → h 0 0 ≡ 0
    → ((a b r s : ℕ) → r < 2 → s < 2 → h (a * 2 + r) (b * 2 + s) ≡ h a b * 2 + f r s)
    → (count a b : ℕ) → a < 2 ^ count → b < 2 ^ count
    → number 2 (pairwise f (digits 2 count a) (digits 2 count b)) ≡ h a b
unfolding number pairwise digits
number-pairwise h f none more zero a b small also =
    let x : a ≡ 0 = omega arith in
    let y : b ≡ 0 = omega arith in
    sym (ap (λ m. h m b) x ∙ (ap (λ m. h 0 m) y ∙ none))
number-pairwise h f none more (suc count) a b small also =
    let e = ap (λ m. 2 * m) (number-pairwise h f none more count (a / 2) (b / 2) (omega arith) (omega arith)) in
    let x : a / 2 * 2 + a % 2 ≡ a = omega arith in
    let y : b / 2 * 2 + b % 2 ≡ b = omega arith in
    let whole = sym (more (a / 2) (b / 2) (a % 2) (b % 2) (omega arith) (omega arith))
    ∙ (ap (λ m. h m (b / 2 * 2 + b % 2)) x ∙ ap (λ m. h a m) y) in
    omega arith

-- the digits of what is left below 2 ^ width
pub digits-inverted : (count width n : ℕ) → count ≤ width → n < 2 ^ width
    → digits 2 count (2 ^ width - 1 - n) ≡ inverted (digits 2 count n)
unfolding digits
digits-inverted zero width n within small = refl
digits-inverted (suc count) zero n within small = absurd (omega arith)
digits-inverted (suc count) (suc width) n within small =
    let double : 2 ^ suc width ≡ 2 * 2 ^ width = omega arith in
    let some = pow_pos width in
    let low : (2 ^ suc width - 1 - n) % 2 ≡ 1 - n % 2 = omega arith in
    let high : (2 ^ suc width - 1 - n) / 2 ≡ 2 ^ width - 1 - n / 2 = omega arith in
    ap (λ x. x ∷ digits 2 count ((2 ^ suc width - 1 - n) / 2)) low
    ∙ ap (λ xs. (1 - n % 2) ∷ xs)
    (ap (λ m. digits 2 count m) high ∙ digits-inverted count width (n / 2) (omega arith) (omega arith))
