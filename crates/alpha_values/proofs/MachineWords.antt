-- Whole numbers against the machine words that stand for them.
use Rattle.std.proofs.Common.{◌≡◌, ℕ, ℤ, pos, negsuc, ◌+◌, ◌*◌, ◌%◌, ◌^◌, ◌<◌, ◌∙◌, ◌+ℤ◌, ◌*ℤ◌, refl, ap, sym, arith}
use Rattle.std.proofs.Common.{rules, FitsSigned, bit_and}
use Rattle.std.specs.Prelude.{unsigned_abs, neg_ℤ, ◌-ℤ◌}
use Rattle.std.specs.Int.{w8, w16, w32, w64, cast_signed, cast_unsigned, int_wrap}
use Rattle.std.proofs.lemmas.Nat.{and_mask}
use Rattle.std.proofs.lemmas.Int.{ints, int_rem_euclid_is, of_z-to_z, int_wrap-add_left, int_wrap-add_right}
use Rattle.std.proofs.lemmas.Int.{int_wrap-sub_right, int_wrap-mul_left, int_wrap-mul_right}
use Rattle.alpha_values.specs.Numbers.{signed, register_of, wrapped}

pub cast_signed-longword : (n : ℕ) → cast_signed w32 (bit_and n 4294967295) ≡ signed w32 n
unfolding int_wrap
cast_signed-longword n = ap (cast_signed w32) (and_mask n 32)

pub cast_signed-quadword : (n : ℕ) → n < 2 ^ 64 → cast_signed w64 n ≡ signed w64 n
unfolding int_wrap
cast_signed-quadword n small = ap (cast_signed w64) (omega arith)

pub register_of-lt : (z : ℤ) → register_of z < 2 ^ 64
unfolding register_of
register_of-lt (pos n) = omega arith
register_of-lt (negsuc n) = omega arith

pub register_of-cast_unsigned : (z : ℤ) → FitsSigned w64 z → cast_unsigned w64 z ≡ register_of z
unfolding register_of
register_of-cast_unsigned (pos n) fits = omega (arith, fits.sfits)
register_of-cast_unsigned (negsuc n) fits = omega (arith, fits.sfits)

-- a number that a multiple of 2 ^ 64 makes natural
pub register_of-mod : (z : ℤ) (k m : ℕ) → z +ℤ pos (k * 2 ^ 64) ≡ pos m → register_of z ≡ m % 2 ^ 64
unfolding register_of
register_of-mod z k m e = ap unsigned_abs (int_rem_euclid_is z _ (2 ^ 64) k m (omega arith) refl e)

-- a register plus a number of 64 bits
pub register_of-sum : (n : ℕ) (z : ℤ) → n < 2 ^ 64 → FitsSigned w64 z
    → (n + cast_unsigned w64 z) % 2 ^ 64 ≡ register_of (pos n +ℤ z)
register_of-sum n (pos m) small fits = sym (register_of-mod _ 0 (n + m) (omega (arith, ints)))
register_of-sum n (negsuc m) small fits =
    let bound = fits.sfits in
    sym (register_of-mod (pos n +ℤ negsuc m) 1 (n + cast_unsigned w64 (negsuc m)) (omega (arith, ints)))

pub cast_signed-byte : (n : ℕ) → cast_signed w8 (bit_and n 255) ≡ signed w8 n
unfolding int_wrap
cast_signed-byte n = ap (cast_signed w8) (and_mask n 8)

pub cast_signed-word : (n : ℕ) → cast_signed w16 (bit_and n 65535) ≡ signed w16 n
unfolding int_wrap
cast_signed-word n = ap (cast_signed w16) (and_mask n 16)

-- ---- the quadword forms in unsigned words

register_signed : (m : ℕ) → m < 2 ^ 64 → register_of (cast_signed w64 m) ≡ m
register_signed m small = sym (register_of-cast_unsigned (cast_signed w64 m) (search rules)) ∙ of_z-to_z w64 m small

register_wrapped : (z : ℤ) → register_of (int_wrap w64 z) ≡ register_of z
unfolding int_wrap register_of
register_wrapped z = register_signed (register_of z) (register_of-lt z)

pub wrapped_sum : (a b : ℕ) → wrapped w64 (signed w64 a +ℤ signed w64 b) ≡ (a + b) % 2 ^ 64
wrapped_sum a b =
    ap register_of (int_wrap-add_left w64 (pos a) (signed w64 b) ∙ int_wrap-add_right w64 (pos a) (pos b))
    ∙ (register_wrapped (pos (a + b)) ∙ register_of-mod (pos (a + b)) 0 (a + b) (omega (arith, ints)))

pub wrapped_difference : (a b : ℕ) → wrapped w64 (signed w64 a -ℤ signed w64 b) ≡ register_of (pos a -ℤ pos b)
wrapped_difference a b =
    ap register_of (int_wrap-add_left w64 (pos a) (neg_ℤ (signed w64 b)) ∙ int_wrap-sub_right w64 (pos a) (pos b))
    ∙ register_wrapped (pos a -ℤ pos b)

pub wrapped_product : (a b : ℕ) → wrapped w64 (signed w64 a *ℤ signed w64 b) ≡ a * b % 2 ^ 64
wrapped_product a b =
    ap register_of (int_wrap-mul_left w64 (pos a) (signed w64 b) ∙ int_wrap-mul_right w64 (pos a) (pos b))
    ∙ (register_wrapped (pos (a * b)) ∙ register_of-mod (pos (a * b)) 0 (a * b) (omega (arith, ints)))
