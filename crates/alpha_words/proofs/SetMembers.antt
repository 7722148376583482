-- The members of the sets that bit operations make.
use Rattle.std.proofs.Common.{◌≡◌, ◌≢◌, ℕ, ◌-◌, ◌*◌, ◌%◌, ◌^◌, ◌<◌, ◌≤◌, ◌⊎◌, ◌↔◌, ◌∙◌, ap, inl, inr, arith, bit_or}
use Rattle.std.proofs.Common.{bit_and, ⊎_elim}
use Rattle.std.specs.Int.{bit_at, w32, trailing_zeros}
use Rattle.std.proofs.lemmas.Nat.Bits.{bit_at_or, bit_at_and, bit_at_not, bit_at-lt, bit_at_above, bit_at-pow_same}
use Rattle.std.proofs.lemmas.Nat.Bits.{bit_at-pow_other, bit_at-trailing_zeros, bit_at_mask_inside, bit_at-zero}
use Rattle.std.proofs.lemmas.Nat.Bits.{same_from_bits}
use Rattle.std.proofs.lemmas.Bool.{cases_eq, cases_lt}
use Rattle.std.proofs.lemmas.Nat.{pow_below, and_le_l}
use Rattle.std.proofs.Math.Nat.{mod-eq_of_lt}
use Rattle.alpha_words.specs.Regs.{Has}

-- a bit that isn't 1 is 0
bit_is_zero : (n k : ℕ) → ¬ Has n k → bit_at n k ≡ 0
bit_is_zero n k h = let b = bit_at-lt n k in omega arith

pub Has-or : (a b k : ℕ) → Has (bit_or a b) k ↔ (Has a k ⊎ Has b k)
Has-or a b k =
    let e = bit_at_or a b k in
    let x = bit_at-lt a k in
    let y = bit_at-lt b k in (
      λ h. ⊎_elim (λ (p : bit_at a k ≡ 1). inl p) (λ (p : bit_at a k ≡ 1 → ⊥). inr (omega (arith, bit_is_zero a k p)))
          (cases_eq (bit_at a k) 1),
      ⊎_elim (λ (p : bit_at a k ≡ 1). omega arith) (λ (p : bit_at b k ≡ 1). omega arith),
    )

pub Has-and : (a b k : ℕ) → Has (bit_and a b) k ↔ (Has a k × Has b k)
Has-and a b k =
    let e = bit_at_and a b k in
    let x = bit_at-lt a k in
    let y = bit_at-lt b k in
    (λ h. (omega arith, omega arith), λ h. omega arith)

pub Has-below : (a k : ℕ) → a < 2 ^ 31 → Has a k → k < 31
Has-below a k bound h =
    ⊎_elim (λ (p : k < 31). p) (λ (p : 31 ≤ k). absurd (omega (arith, bit_at_above a 31 k bound p))) (cases_lt k 31)

pub Has-and_not : (a b k : ℕ) → a < 2 ^ 31 → b < 2 ^ 31 → Has (bit_and a (4294967295 - b)) k ↔ (Has a k × ¬ Has b k)
Has-and_not a b k small other =
    let both = Has-and a (4294967295 - b) k in (
      λ h. let f = both.0 h in
          let within = Has-below a k small f.0 in
          let e = bit_at_not w32 b k (omega arith) (omega arith) in
          (f.0, λ p. omega arith),
      λ h. let within = Has-below a k small h.0 in
          let e = bit_at_not w32 b k (omega arith) (omega arith) in
          let z = bit_is_zero b k h.1 in
          both.1 (h.0, omega arith),
    )

-- the bit of one register, R31's masked off
pub Has-masked : (r k : ℕ) → r < 32 → Has (bit_and (1 * 2 ^ r % 4294967296) 2147483647) k ↔ ((k ≡ r) × (k < 31))
Has-masked r k small =
    let less = pow_below r 32 small in
    let fits : 1 * 2 ^ r % 4294967296 ≡ 2 ^ r =
    omega (arith, mod-eq_of_lt {n = 1 * 2 ^ r} {m = 4294967296} (omega arith)) in
    let both = Has-and (1 * 2 ^ r % 4294967296) 2147483647 k in (
      λ h. let f = both.0 h in (
        ⊎_elim (λ (p : k ≡ r). p)
            (λ (p : k ≡ r → ⊥). absurd (omega (arith, f.0, bit_at-pow_other r k p, ap (λ n. bit_at n k) fits)))
            (cases_eq k r),
        Has-below 2147483647 k (omega arith) f.1,
      ),
      λ h. both.1 (
        ap (λ n. bit_at n k) fits ∙ (ap (λ n. bit_at (2 ^ r) n) h.0 ∙ bit_at-pow_same r),
        bit_at_mask_inside 0 31 k (omega arith) h.1,
      ),
    )

-- a set that a bit operation leaves as it is has all its members among the other's
pub covers-members : (a b : ℕ) → (bit_and a b ≡ b) ↔ ((k : ℕ) → Has b k → Has a k)
covers-members a b = (
  λ e k h. let both = (Has-and a b k).0 (ap (λ n. bit_at n k) e ∙ h) in both.0,
  λ all. same_from_bits (bit_and a b) b (λ k.
      let e = bit_at_and a b k in
      let x = bit_at-lt a k in
      let y = bit_at-lt b k in
      ⊎_elim (λ (p : bit_at b k ≡ 1). let q = all k p in omega arith)
      (λ (p : bit_at b k ≡ 1 → ⊥). omega (arith, bit_is_zero b k p)) (cases_eq (bit_at b k) 1)),
)

-- two sets share a member where their common bits are not all 0
pub meets-members : (a b : ℕ) → a < 2 ^ 31 → b < 2 ^ 31 → (bit_and a b ≢ 0) ↔ ((k : ℕ) × Has a k × Has b k)
meets-members a b small other = (
  λ some.
      let low = bit_at-trailing_zeros w32 (bit_and a b) (omega arith) (omega (arith, and_le_l a b)) in
      let k = trailing_zeros w32 (bit_and a b) in
      let both = (Has-and a b k).0 low.1 in
      (k, both.0, both.1),
  λ shared none.
      let both = (Has-and a b shared.0).1 (shared.1, shared.2) in
      omega (arith, ap (λ n. bit_at n shared.0) none, bit_at-zero shared.0),
)
