-- A number from 2^64 on is outside each range.
use Rattle.std.proofs.Common.{◌≡◌, ℕ, ◌≤◌, ◌<◌, ◌-◌, ◌%◌, ◌^◌, Bool, false, None, refl, suc, eqb, leb, ltb, arith}
use Rattle.std.proofs.lemmas.Bool.Decides.{nat_tests}
use Rattle.std.proofs.lemmas.Bool.{and_right}
use Rattle.alpha_operands.specs.declared.piece.Piece.{Piece}
use Rattle.alpha_operands.specs.declared.piece.Piece.TheVariants.{Displacement, Immediate, Literal, Hint, Distance}
use Rattle.alpha_operands.specs.declared.piece.Piece.TheVariants.{Whole, Zeroed, Align, Level, Pal, Nothing, Byte, Word}
use Rattle.alpha_operands.specs.declared.piece.Piece.TheVariants.{Long, Quad}
use Rattle.alpha_operands.specs.declared.number.Sign.{Sign}
use Rattle.alpha_operands.specs.declared.number.Sign.TheVariants as signs
use Rattle.alpha_operands.specs.declared.number.Number.{Number}
use Rattle.alpha_operands.specs.Ranges.{in_range, if_in, number_of}

if_in-none : (b : Bool) (x : Number) → b ≡ false → if_in b x ≡ None
if_in-none b x h = rw h refl

in_range-out : (most least n : ℕ) (sign : Sign) → most < 2 ^ 64 → least < 2 ^ 64 → 2 ^ 64 ≤ n
    → in_range most least sign n ≡ false
in_range-out most least n signs.Plus a b h = grind (arith, nat_tests)
in_range-out most least n signs.Minus a b h = grind (arith, nat_tests)

leb-above : (n most : ℕ) → most < 2 ^ 64 → 2 ^ 64 ≤ n → leb n most ≡ false
leb-above n most a h = grind (arith, nat_tests)

eqb-above : (n m : ℕ) → m < 2 ^ 64 → 2 ^ 64 ≤ n → eqb n m ≡ false
eqb-above n m a h = grind (arith, nat_tests)

pub number_of-large : (p : Piece) (sign : Sign) (n : ℕ) → 2 ^ 64 ≤ n → number_of p sign n ≡ None
unfolding number_of
number_of-large Displacement sign n h = if_in-none _ _ (in_range-out 32767 32768 n sign (omega arith) (omega arith) h)
number_of-large Immediate sign n h = if_in-none _ _ (in_range-out 32767 32768 n sign (omega arith) (omega arith) h)
number_of-large Literal sign n h = if_in-none _ _ (leb-above n 255 (omega arith) h)
number_of-large Hint sign n h = if_in-none _ _ (leb-above n 16383 (omega arith) h)
number_of-large Distance sign n h =
    if_in-none _ _ (and_right (eqb (n % 4) 0) _ (in_range-out 4194304 4194300 n sign (omega arith) (omega arith) h))
number_of-large Whole sign n h = if_in-none _ _ (let no : ltb n (2 ^ 64) ≡ false = grind (arith, nat_tests) in no)
number_of-large Zeroed sign n h = if_in-none _ _ (leb-above n 16777216 (omega arith) h)
number_of-large Align sign n h = if_in-none _ _ (leb-above n 13 (omega arith) h)
number_of-large Level sign n h = rw (eqb-above n 1 (omega arith) h, eqb-above n 2 (omega arith) h) refl
number_of-large Pal sign n h = rw (leb-above (suc n) (2 ^ 26) (omega arith) (omega arith)) refl
number_of-large Nothing sign n h = if_in-none _ _ (eqb-above n 0 (omega arith) h)
number_of-large Byte sign n h = if_in-none _ _ (in_range-out (2 ^ 8 - 1) (2 ^ 7) n sign (omega arith) (omega arith) h)
number_of-large Word sign n h = if_in-none _ _ (in_range-out (2 ^ 16 - 1) (2 ^ 15) n sign (omega arith) (omega arith) h)
number_of-large Long sign n h = if_in-none _ _ (in_range-out (2 ^ 32 - 1) (2 ^ 31) n sign (omega arith) (omega arith) h)
number_of-large Quad sign n h = if_in-none _ _ (in_range-out (2 ^ 64 - 1) (2 ^ 63) n sign (omega arith) (omega arith) h)
number_of-large _ sign n h = refl
