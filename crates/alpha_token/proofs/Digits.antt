-- More digits make no smaller number.
use Rattle.std.proofs.Common.{◌≡◌, ℕ, List, [], ◌∷◌, ◌≤◌, ◌<◌, ◌+◌, ◌*◌, ◌^◌, length, get_or, drop, arith}
use Rattle.std.proofs.lemmas.List.{drop_more}
use Rattle.std.proofs.Math.Nat.{mul-le-mul_left}
use Rattle.std.specs.Char.{digit_value}
use Rattle.std.specs.Str.Parse.{digits_value_after}

pub digits_value_after-le : (radix n : ℕ) (ds : List ℕ) → 1 ≤ radix → n ≤ digits_value_after radix n ds
digits_value_after-le radix n [] h = omega arith
digits_value_after-le radix n (d ∷ ds) h =
    omega (arith, mul-le-mul_left n h, digits_value_after-le radix (n * radix + digit_value d) ds h)

pub digits_value_after-too_large : (radix n : ℕ) (ds : List ℕ) (i m : ℕ) → 1 ≤ radix → i < length ds
    → 2 ^ 64 ≤ n * radix + digit_value (get_or ds i 0) → digits_value_after radix n (drop i ds) ≡ m → 2 ^ 64 ≤ m
digits_value_after-too_large radix n ds i m low inside large e =
    let whole : digits_value_after radix n (get_or ds i 0 ∷ drop (i + 1) ds) ≡ m = rw (drop_more ds i 0 inside) at e in
    omega (arith, digits_value_after-le radix (n * radix + digit_value (get_or ds i 0)) (drop (i + 1) ds) low)
