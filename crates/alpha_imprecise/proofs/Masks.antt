-- Masks by their members.
use Rattle.std.proofs.Common.{◌≡◌, ◌≢◌, ◌<◌, ◌≤◌, ◌^◌, ◌⊎◌, ◌↔◌, ◌∙◌, ℕ, Bool, true, false, cond, eqb, refl, sym, ap}
use Rattle.std.proofs.Common.{inl, inr, arith, bit_or, ⊎_elim, eqb-true}
use Rattle.std.specs.Int.{bit_at}
use Rattle.std.proofs.lemmas.Bool.{cases_eq, eqb-false}
use Rattle.std.proofs.lemmas.Nat.Bits.{bit_at-lt, bit_at-pow_same, bit_at-pow_other, same_from_bits}
use Rattle.alpha_words.specs.Regs.{Has}
use Rattle.alpha_words.proofs.SetMembers.{Has-or}
use Rattle.alpha_imprecise.specs.StepResult.{with_register}

-- a bit that isn't 1 is 0
bit_is_zero : (n k : ℕ) → ¬ Has n k → bit_at n k ≡ 0
bit_is_zero n k h = let b = bit_at-lt n k in omega arith

-- sets with the same members are the same
same_members : (a b : ℕ) → ((k : ℕ) → Has a k ↔ Has b k) → a ≡ b
same_members a b same = same_from_bits a b (λ k.
    ⊎_elim (λ (has : bit_at b k ≡ 1). (same k).1 has ∙ sym has)
    (λ (hasnt : bit_at b k ≡ 1 → ⊥). bit_is_zero a k (λ h. hasnt ((same k).0 h)) ∙ sym (bit_is_zero b k hasnt))
    (cases_eq (bit_at b k) 1))

-- the members of a mask and one register more
abbrev HasOneMore : ℕ → ℕ → ℕ → Type 0
HasOneMore mask r k = Has mask k ⊎ ((k ≡ r) × (k < 31))

with-31 : (mask r k : ℕ) → r ≡ 31 → HasOneMore mask r k ↔ Has mask k
with-31 mask r k e = (
  ⊎_elim (λ (h : Has mask k). h) (λ (p : (k ≡ r) × (k < 31)). let one = p.0 in let two = p.1 in absurd (omega arith)),
  λ h. inl h,
)

with-other : (mask r k : ℕ) → r < 31 → HasOneMore mask r k ↔ Has (bit_or mask (2 ^ r)) k
with-other mask r k small =
    let both = Has-or mask (2 ^ r) k in (
      ⊎_elim (λ (h : Has mask k). both.1 (inl h))
          (λ (p : (k ≡ r) × (k < 31)). both.1 (inr (ap (λ n. bit_at (2 ^ r) n) p.0 ∙ bit_at-pow_same r))),
      λ h. ⊎_elim (λ (p : Has mask k). inl p)
          (λ (p : bit_at (2 ^ r) k ≡ 1). ⊎_elim (λ (q : k ≡ r). inr (q, omega arith))
          (λ (q : k ≡ r → ⊥). let zero = bit_at-pow_other r k q in absurd (omega arith)) (cases_eq k r))
          (both.0 h),
    )

by_test : (mask r : ℕ) (b : Bool) → eqb r 31 ≡ b → r ≤ 31 → (result : ℕ)
    → ((k : ℕ) → Has result k ↔ HasOneMore mask r k)
    → result ≡ cond b mask (bit_or mask (2 ^ r))
by_test mask r true e within result members =
    same_members result mask
    (λ k. let w = with-31 mask r k (eqb-true r 31 e) in (λ h. w.0 ((members k).0 h), λ h. (members k).1 (w.1 h)))
by_test mask r false e within result members =
    let other : r ≢ 31 = eqb-false r 31 e in
    same_members result (bit_or mask (2 ^ r))
    (λ k. let w = with-other mask r k (omega arith) in (λ h. w.0 ((members k).0 h), λ h. (members k).1 (w.1 h)))

-- a set with these members is the mask of the definition
pub with_register-members : (mask r result : ℕ) → r ≤ 31 → ((k : ℕ) → Has result k ↔ HasOneMore mask r k)
    → result ≡ with_register mask r
with_register-members mask r result within members = by_test mask r (eqb r 31) refl within result members
