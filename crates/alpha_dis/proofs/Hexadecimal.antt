-- Hexadecimal digits, written from the last one on.
use Rattle.std.proofs.Common.{◌≡◌, ℕ, zero, suc, ◌+◌, ◌*◌, ◌/◌, ◌%◌, ◌^◌, ◌<◌, ◌≤◌, List, [], ◌∷◌, Bool, true, false}
use Rattle.std.proofs.Common.{cond, eqb, refl, ap, ◌∙◌, add-one, arith}
use Rattle.std.specs.Fmt.{digits, digits_onto, digit_glyph}
use Rattle.std.proofs.lemmas.Bool.{eq-eqb, ne_eqb}
use Rattle.std.proofs.Math.Nat.{pow-suc}

-- the digits of n, of which there are so many at most, and behind them those that are written
unfoldable pub hex_digits_onto : ℕ → ℕ → List ℕ → List ℕ
hex_digits_onto most n written = digits_onto (most + 48) 16 false n written

pub hex_digits_onto-none : (n : ℕ) → hex_digits_onto 16 n [] ≡ digits 16 false n
unfolding hex_digits_onto digits
hex_digits_onto-none n = refl

by_last : (k n : ℕ) (written : List ℕ) (is_last : Bool) → eqb (n / 16) 0 ≡ is_last
    → digits_onto (suc k) 16 false n written
    ≡ cond is_last (digit_glyph false (n % 16) ∷ written)
    (digits_onto k 16 false (n / 16) (digit_glyph false (n % 16) ∷ written))
by_last k n written is_last e =
    ap (λ (b : Bool). cond b (digit_glyph false (n % 16) ∷ written)
    (digits_onto k 16 false (n / 16) (digit_glyph false (n % 16) ∷ written)))
    e

-- the last digit of a number that has more
pub hex_digits_onto-more : (most n : ℕ) (written : List ℕ) → 16 ≤ n
    → hex_digits_onto (suc most) n written ≡ hex_digits_onto most (n / 16) (digit_glyph false (n % 16) ∷ written)
unfolding hex_digits_onto
hex_digits_onto-more most n written more =
    ap (λ (k : ℕ). digits_onto k 16 false n written) {x = suc most + 48} {y = suc (most + 48)} (omega arith)
    ∙ by_last (most + 48) n written false (ne_eqb (n / 16) 0 (λ e. omega arith))

-- and of a number that has none
pub hex_digits_onto-last : (most n : ℕ) (written : List ℕ) → n < 16
    → hex_digits_onto most n written ≡ digit_glyph false (n % 16) ∷ written
unfolding hex_digits_onto
hex_digits_onto-last most n written last =
    ap (λ (k : ℕ). digits_onto k 16 false n written) {x = most + 48} {y = suc (most + 47)} (omega arith)
    ∙ by_last (most + 47) n written true (eq-eqb (n / 16) 0 (omega arith))

-- a number with a second digit has room for it
pub hex_digits-second_has_room : (at n : ℕ) → 16 ≤ n → n < 16 ^ (at + 1) → 0 < at
hex_digits-second_has_room zero n more within = absurd (omega arith)
hex_digits-second_has_room (suc at) n more within = omega arith

-- without its last digit it has one less
pub fewer_digits : (at n : ℕ) → n < 16 ^ (at + 1) → n / 16 < 16 ^ at
fewer_digits at n within =
    let wide : 16 ^ (at + 1) ≡ 16 ^ at * 16 = ap (λ (k : ℕ). 16 ^ k) (add-one at) ∙ pow-suc 16 at in
    omega arith
