-- A register by its number has that number.
use Rattle.std.proofs.Common.{◌≡◌, ◌⊎◌, ℕ, List, [], ◌∷◌, ◌+◌, ◌/◌, ◌%◌, ◌<◌, ◌≤◌, ◌&&◌, Bool, true, false, cond, eqb}
use Rattle.std.proofs.Common.{nat_lt, Option, Some, None, decimal, refl, ◌∙◌, ap, inl, inr, arith}
use Prim.Native.Nat.{zero, suc}
use Rattle.std.proofs.lemmas.Fmt.{decimal_digit, decimal_step}
use Rattle.std.proofs.lemmas.Bool.Decides.{nat_tests}
use Rattle.std.proofs.lemmas.Bool.{and_parts}
use Rattle.alpha_operands.specs.Names.{register_of, registers}

-- the digits of a number below 100
digits_of : ℕ → List ℕ
digits_of n = cond (nat_lt n 10) ((48 + n) ∷ []) ((48 + n / 10) ∷ (48 + n % 10) ∷ [])

decimal-digits_of : (n : ℕ) → n < 100 → decimal n ≡ digits_of n
unfolding digits_of
decimal-digits_of n h =
    let either : (b : Bool) → nat_lt n 10 ≡ b
    → decimal n ≡ cond b ((48 + n) ∷ []) ((48 + n / 10) ∷ (48 + n % 10) ∷ []) =
    λ b. elim b as (λ v. nat_lt n 10 ≡ v → decimal n ≡ cond v ((48 + n) ∷ []) ((48 + n / 10) ∷ (48 + n % 10) ∷ [])) [
      | true ↦ λ e. decimal_digit n (let l : n < 10 = grind (arith, nat_tests) in l)
      | false ↦ λ e. let l : 10 ≤ n = grind (arith, nat_tests) in
          decimal_step n l (omega arith) ∙ rw (decimal_digit (n / 10) (omega arith)) refl
    ] in
    either (nat_lt n 10) refl

is_some_number : Option ℕ → ℕ → Bool
is_some_number None n = false
is_some_number (Some m) n = eqb m n

is_some_number-is : (r : Option ℕ) (n : ℕ) → is_some_number r n ≡ true → r ≡ Some n
unfolding is_some_number
is_some_number-is None n h = cc
is_some_number-is (Some m) n h = ap Some (let e : m ≡ n = grind (arith, nat_tests) in e)

named_so : ℕ → Bool
named_so r = is_some_number (register_of (36 ∷ digits_of r)) r

each_below : (ℕ → Bool) → ℕ → Bool
each_below p zero = true
each_below p (suc n) = p n && each_below p n

first_or : (n k : ℕ) → k < suc n → (k ≡ n) ⊎ (k < n)
first_or n k l = grind arith

each_below-is : (p : ℕ → Bool) (n k : ℕ) → each_below p n ≡ true → k < n → p k ≡ true
unfolding each_below
each_below-is p zero k h l = absurd (omega arith)
each_below-is p (suc n) k h l =
    let (a, b) = and_parts (p n) (each_below p n) h in
    elim (first_or n k l) [ inl e ↦ ap p e ∙ a | inr m ↦ each_below-is p n k b m ]

each_named : each_below named_so 32 ≡ true
unfolding each_below named_so is_some_number digits_of register_of registers
each_named = refl

pub register_of-number : (r : ℕ) → r < 32 → register_of (36 ∷ decimal r) ≡ Some r
unfolding named_so
register_of-number r h =
    ap (λ d. register_of (36 ∷ d)) (decimal-digits_of r (omega arith))
    ∙ is_some_number-is (register_of (36 ∷ digits_of r)) r (each_below-is named_so 32 r each_named h)
