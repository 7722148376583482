-- Logic on registers is logic on their bits.
use Rattle.std.proofs.Common.{◌≡◌, ℕ, ◌+◌, ◌*◌, ◌%◌, ◌^◌, ◌<◌, ◌∙◌, min, max, refl, sym, ap, arith, bit_and, bit_or}
use Rattle.std.specs.Prelude.{bit_xor}
use Rattle.std.proofs.lemmas.Nat.{and_block, or_block, xor_block, and_le_l, or_lt, xor_lt}
use Rattle.std.proofs.lemmas.Nat.Bits.{bit_at_and, bit_at_or, bit_at_xor}
use Rattle.alpha_values.specs.Bits.{bits_of}
use Rattle.alpha_values.specs.Op.{complement}
use Rattle.alpha_values.specs.Lists.{inverted, and_of, or_of, xor_of}
use Rattle.alpha_values.proofs.PairLemmas.{number-pairwise, digits-inverted}

and_bits : (r s : ℕ) → r < 2 → s < 2 → bit_and r s ≡ min r s
and_bits r s small also = omega (arith, bit_at_and r s 0, and_le_l r s)

or_bits : (r s : ℕ) → r < 2 → s < 2 → bit_or r s ≡ max r s
or_bits r s small also = omega (arith, bit_at_or r s 0, or_lt 1 r s small also)

xor_bits : (r s : ℕ) → r < 2 → s < 2 → bit_xor r s ≡ (r + s) % 2
xor_bits r s small also = omega (arith, bit_at_xor r s 0, xor_lt 1 r s small also)

pub bit_and-and_of : (a b : ℕ) → a < 2 ^ 64 → b < 2 ^ 64 → bit_and a b ≡ and_of (bits_of a) (bits_of b)
unfolding and_of
bit_and-and_of a b small also =
    sym (number-pairwise bit_and min refl
    (λ a b r s x y. and_block 1 a b r s x y ∙ ap (λ m. bit_and a b * 2 + m) (and_bits r s x y)) 64 a b small also)

pub bit_or-or_of : (a b : ℕ) → a < 2 ^ 64 → b < 2 ^ 64 → bit_or a b ≡ or_of (bits_of a) (bits_of b)
unfolding or_of
bit_or-or_of a b small also =
    sym (number-pairwise bit_or max refl
    (λ a b r s x y. or_block 1 a b r s x y ∙ ap (λ m. bit_or a b * 2 + m) (or_bits r s x y)) 64 a b small also)

pub bit_xor-xor_of : (a b : ℕ) → a < 2 ^ 64 → b < 2 ^ 64 → bit_xor a b ≡ xor_of (bits_of a) (bits_of b)
unfolding xor_of
bit_xor-xor_of a b small also =
    sym (number-pairwise bit_xor (λ x y. (x + y) % 2) refl
    (λ a b r s x y. xor_block 1 a b r s x y ∙ ap (λ m. bit_xor a b * 2 + m) (xor_bits r s x y)) 64 a b small also)

pub complement-inverted : (a : ℕ) → a < 2 ^ 64 → bits_of (complement a) ≡ inverted (bits_of a)
complement-inverted a small = digits-inverted 64 64 a (omega arith) small
