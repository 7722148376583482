-- Each result fits a register.
use Rattle.std.proofs.Common.{◌≡◌, ℕ, zero, suc, ◌+◌, ◌-◌, ◌*◌, ◌/◌, ◌%◌, ◌^◌, ◌<◌, ◌≤◌, Bool, true, false, cond, List}
use Rattle.std.proofs.Common.{[], ◌∷◌, length, ap, arith}
use Rattle.std.specs.Prelude.{nat_le, ◌==◌, if◌then◌else◌}
use Rattle.std.proofs.Math.Nat.{pow-le-pow_right}
use Rattle.std.proofs.lemmas.Nat.{mul-add-lt, pow_pos, pow-add, pow_below, mod_below, shr_below, shr_le, and_le_l}
use Rattle.std.proofs.lemmas.Nat.{or_lt, xor_lt, mul-lt, ones-le, leading_le, trailing_le}
use Rattle.alpha_words.specs.declared.Level.{Level}
use Rattle.alpha_words.specs.declared.Level.TheVariants.{One, Two}
use Rattle.alpha_table.specs.declared.op.Op.{Op}
use Rattle.alpha_table.specs.declared.op.Op.TheVariants.{Addl, S4addl, Subl, S4subl, Cmpbge, S8addl, S8subl, Cmpult}
use Rattle.alpha_table.specs.declared.op.Op.TheVariants.{Addq, S4addq, Subq, S4subq, Cmpeq, S8addq, S8subq, Cmpule}
use Rattle.alpha_table.specs.declared.op.Op.TheVariants.{AddlV, SublV, Cmplt, AddqV, SubqV, Cmple, And, Bic, Cmovlbs}
use Rattle.alpha_table.specs.declared.op.Op.TheVariants.{Cmovlbc, Bis, Cmoveq, Cmovne, Ornot, Xor, Cmovlt, Cmovge, Eqv}
use Rattle.alpha_table.specs.declared.op.Op.TheVariants.{Amask, Cmovle, Cmovgt, Implver, Mskbl, Extbl, Insbl, Mskwl}
use Rattle.alpha_table.specs.declared.op.Op.TheVariants.{Extwl, Inswl, Mskll, Extll, Insll, Zap, Zapnot, Mskql, Srl}
use Rattle.alpha_table.specs.declared.op.Op.TheVariants.{Extql, Sll, Insql, Sra, Mskwh, Inswh, Extwh, Msklh, Inslh}
use Rattle.alpha_table.specs.declared.op.Op.TheVariants.{Extlh, Mskqh, Insqh, Extqh, Mull, Mulq, Umulh, MullV, MulqV}
use Rattle.alpha_table.specs.declared.op.Op.TheVariants.{Sextb, Sextw, Ctpop, Ctlz, Cttz}
use Rattle.alpha_table.specs.declared.op.Cond.TheVariants.{Lbc, Lbs, Eq, Ne, Lt, Le, Ge, Gt}
use Rattle.alpha_words.specs.Digits.{digits, number}
use Rattle.alpha_values.specs.Bits.{pairwise, bytes_of}
use Rattle.alpha_values.specs.Cond.{is_taken}
use Rattle.alpha_values.specs.Op.{flag, features, implementation, complement, inserted, zapped, bytes_compared}
use Rattle.alpha_values.specs.Op.{result_of}
use Rattle.alpha_values.proofs.MachineWords.{register_of-lt}
use Rattle.alpha_words.proofs.DigitLemmas.{AllBelow, digits-AllBelow, length-digits}
use Rattle.alpha_values.proofs.CountLemmas.{sum_bits, leading_bits, trailing_bits}

pairwise_bound : (w v : ℕ) (f : ℕ → ℕ → ℕ) (xs ys : List ℕ) (count : ℕ)
    → ((x y : ℕ) → y < v → f x y < 2 ^ w) → AllBelow v ys → length ys ≤ count
    → number (2 ^ w) (pairwise f xs ys) < 2 ^ (w * count)
unfolding number pairwise
pairwise_bound w v f [] ys count each below long = pow_pos (w * count)
pairwise_bound w v f (x ∷ xs) [] count each below long = pow_pos (w * count)
pairwise_bound w v f (x ∷ xs) (y ∷ ys) zero each below long = absurd (omega arith)
pairwise_bound w v f (x ∷ xs) (y ∷ ys) (suc count) each below long =
    let rest = pairwise_bound w v f xs ys count each below.1 (omega arith) in
    let more : w * suc count ≡ w + w * count = omega arith in
    omega (
      arith,
      mul-add-lt _ (2 ^ w) (f x y) (2 ^ (w * count)) rest (each x y below.0),
      ap (λ k. 2 ^ k) more,
      pow-add 2 w (w * count),
    )

choice_bound : (b : Bool) (m n : ℕ) (bound : ℕ) → m < bound → n < bound → cond b m n < bound
choice_bound true m n bound p q = p
choice_bound false m n bound p q = q

zapped_bound : (a marks : ℕ) → zapped a marks < 2 ^ 64
unfolding zapped
zapped_bound a marks =
    pairwise_bound 8 256 (λ mark byte. if mark == 1 then 0 else byte) (digits 2 8 marks) (bytes_of a) 8
    (λ x y small. choice_bound (x == 1) 0 y 256 (omega arith) small) (digits-AllBelow 8 8 a)
    (omega (arith, length-digits 256 8 a))

compared_bound : (a b : ℕ) → bytes_compared a b < 2 ^ 64
unfolding bytes_compared
compared_bound a b =
    omega (
      arith,
      pairwise_bound 1 256 (λ x y. if nat_le y x then 1 else 0) (bytes_of a) (bytes_of b) 8
          (λ x y small. choice_bound (nat_le y x) 1 0 2 (omega arith) (omega arith)) (digits-AllBelow 8 8 b)
          (omega (arith, length-digits 256 8 b)),
    )

flag_bound : (b : Bool) → flag b < 2 ^ 64
flag_bound b = choice_bound b 1 0 (2 ^ 64) (omega arith) (omega arith)

complement_bound : (n : ℕ) → complement n < 2 ^ 64
complement_bound n = omega arith

-- what a remainder of a register's bytes is below
bytes_bound : (n size : ℕ) → size ≤ 8 → n % 2 ^ (8 * size) < 2 ^ 64
bytes_bound n size within =
    let most : 8 * size ≤ 64 = omega arith in
    let power : 2 ^ (8 * size) ≤ 2 ^ 64 = pow-le-pow_right {n = 2} (omega arith) most in
    omega (arith, mod_below n (2 ^ (8 * size)) (pow_pos (8 * size)))

high_insert_bound : (size a b : ℕ) → size ≤ 8 → inserted size a b / 2 ^ 64 < 2 ^ 64
high_insert_bound size a b within =
    let place = pow_below (8 * (b % 8)) 64 (omega arith) in
    let product = mul-lt (2 ^ (8 * (b % 8))) (a % 2 ^ (8 * size)) (2 ^ 64) (2 ^ 64) place (bytes_bound a size within) in
    shr_below (inserted size a b) 64 64 product

high_product_bound : (a b : ℕ) → a < 2 ^ 64 → b < 2 ^ 64 → a * b / 2 ^ 64 < 2 ^ 64
high_product_bound a b small also = shr_below (a * b) 64 64 (mul-lt a b (2 ^ 64) (2 ^ 64) small also)

implementation_bound : (level : Level) → implementation level < 2 ^ 64
implementation_bound One = omega arith
implementation_bound Two = omega arith

pub result_bound : (level : Level) (op : Op) (a b old : ℕ) → a < 2 ^ 64 → b < 2 ^ 64 → old < 2 ^ 64
    → result_of level op a b old < 2 ^ 64
unfolding result_of
result_bound level Addl a b old p q r = register_of-lt _
result_bound level AddlV a b old p q r = register_of-lt _
result_bound level S4addl a b old p q r = register_of-lt _
result_bound level S8addl a b old p q r = register_of-lt _
result_bound level Subl a b old p q r = register_of-lt _
result_bound level SublV a b old p q r = register_of-lt _
result_bound level S4subl a b old p q r = register_of-lt _
result_bound level S8subl a b old p q r = register_of-lt _
result_bound level Mull a b old p q r = register_of-lt _
result_bound level MullV a b old p q r = register_of-lt _
result_bound level Addq a b old p q r = register_of-lt _
result_bound level AddqV a b old p q r = register_of-lt _
result_bound level S4addq a b old p q r = register_of-lt _
result_bound level S8addq a b old p q r = register_of-lt _
result_bound level Subq a b old p q r = register_of-lt _
result_bound level SubqV a b old p q r = register_of-lt _
result_bound level S4subq a b old p q r = register_of-lt _
result_bound level S8subq a b old p q r = register_of-lt _
result_bound level Mulq a b old p q r = register_of-lt _
result_bound level MulqV a b old p q r = register_of-lt _
result_bound level Sextb a b old p q r = register_of-lt _
result_bound level Sextw a b old p q r = register_of-lt _
result_bound level Sra a b old p q r = register_of-lt _
result_bound level Umulh a b old p q r = high_product_bound a b p q
result_bound level Cmpeq a b old p q r = flag_bound _
result_bound level Cmplt a b old p q r = flag_bound _
result_bound level Cmple a b old p q r = flag_bound _
result_bound level Cmpult a b old p q r = flag_bound _
result_bound level Cmpule a b old p q r = flag_bound _
result_bound level Cmpbge a b old p q r = compared_bound a b
result_bound level And a b old p q r = omega (arith, and_le_l a b)
result_bound level Bis a b old p q r = or_lt 64 a b p q
result_bound level Xor a b old p q r = xor_lt 64 a b p q
result_bound level Bic a b old p q r = omega (arith, and_le_l a (complement b))
result_bound level Ornot a b old p q r = or_lt 64 a (complement b) p (complement_bound b)
result_bound level Eqv a b old p q r = xor_lt 64 a (complement b) p (complement_bound b)
result_bound level Amask a b old p q r = omega (arith, and_le_l b (complement (features level)))
result_bound level Implver a b old p q r = implementation_bound level
result_bound level Ctpop a b old p q r = omega (arith, sum_bits b q, ones-le 64 b q)
result_bound level Ctlz a b old p q r = omega (arith, leading_bits b q, leading_le 64 b)
result_bound level Cttz a b old p q r = omega (arith, trailing_bits b, trailing_le 64 b)
result_bound level Cmovlbs a b old p q r = choice_bound (is_taken Lbs a) b old (2 ^ 64) q r
result_bound level Cmovlbc a b old p q r = choice_bound (is_taken Lbc a) b old (2 ^ 64) q r
result_bound level Cmoveq a b old p q r = choice_bound (is_taken Eq a) b old (2 ^ 64) q r
result_bound level Cmovne a b old p q r = choice_bound (is_taken Ne a) b old (2 ^ 64) q r
result_bound level Cmovlt a b old p q r = choice_bound (is_taken Lt a) b old (2 ^ 64) q r
result_bound level Cmovle a b old p q r = choice_bound (is_taken Le a) b old (2 ^ 64) q r
result_bound level Cmovge a b old p q r = choice_bound (is_taken Ge a) b old (2 ^ 64) q r
result_bound level Cmovgt a b old p q r = choice_bound (is_taken Gt a) b old (2 ^ 64) q r
result_bound level Sll a b old p q r = omega arith
result_bound level Srl a b old p q r = omega (arith, shr_le a (b % 64))
result_bound level Extbl a b old p q r = bytes_bound (a / 2 ^ (8 * (b % 8))) 1 (omega arith)
result_bound level Insbl a b old p q r = omega arith
result_bound level Mskbl a b old p q r = zapped_bound a _
result_bound level Extwl a b old p q r = bytes_bound (a / 2 ^ (8 * (b % 8))) 2 (omega arith)
result_bound level Inswl a b old p q r = omega arith
result_bound level Mskwl a b old p q r = zapped_bound a _
result_bound level Extwh a b old p q r = bytes_bound (a * 2 ^ (8 * ((8 - b % 8) % 8)) % 2 ^ 64) 2 (omega arith)
result_bound level Inswh a b old p q r = high_insert_bound 2 a b (omega arith)
result_bound level Mskwh a b old p q r = zapped_bound a _
result_bound level Extll a b old p q r = bytes_bound (a / 2 ^ (8 * (b % 8))) 4 (omega arith)
result_bound level Insll a b old p q r = omega arith
result_bound level Mskll a b old p q r = zapped_bound a _
result_bound level Extlh a b old p q r = bytes_bound (a * 2 ^ (8 * ((8 - b % 8) % 8)) % 2 ^ 64) 4 (omega arith)
result_bound level Inslh a b old p q r = high_insert_bound 4 a b (omega arith)
result_bound level Msklh a b old p q r = zapped_bound a _
result_bound level Extql a b old p q r = bytes_bound (a / 2 ^ (8 * (b % 8))) 8 (omega arith)
result_bound level Insql a b old p q r = omega arith
result_bound level Mskql a b old p q r = zapped_bound a _
result_bound level Extqh a b old p q r = bytes_bound (a * 2 ^ (8 * ((8 - b % 8) % 8)) % 2 ^ 64) 8 (omega arith)
result_bound level Insqh a b old p q r = high_insert_bound 8 a b (omega arith)
result_bound level Mskqh a b old p q r = zapped_bound a _
result_bound level Zap a b old p q r = zapped_bound a _
result_bound level Zapnot a b old p q r = zapped_bound a _
