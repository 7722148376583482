-- Tests of the numbers in a range, and the greatest number that passes one.
use Rattle.std.proofs.Common.{◌≡◌, ◌<◌, ◌≤◌, ◌+◌, ℕ, zero, suc, Bool, true, false, cond, Some, None, refl, sym, ap}
use Rattle.std.proofs.Common.{subst, ⊎_elim, arith}
use Rattle.std.specs.List.{list_all, list_any, range_with_len}
use Rattle.std.proofs.lemmas.Bool.{cases_eq, and_parts, and_from, or_cases, or_left, or_right}
use Rattle.alpha_trap.specs.Scan.{greatest_below}

-- every number of a range passes a test

pub list_all-range_elim : (p : ℕ → Bool) (from n k : ℕ) → list_all p (range_with_len from n) ≡ true → from ≤ k
    → k < from + n
    → p k ≡ true
list_all-range_elim p from zero k e low high = absurd (omega arith)
list_all-range_elim p from (suc n) k e low high =
    let q = and_parts (p from) (list_all p (range_with_len (from + 1) n)) e in
    ⊎_elim
    (λ (same : k ≡ from). subst (λ j. p j ≡ true) (sym same) q.0)
    (λ (apart : k ≡ from → ⊥). list_all-range_elim p (from + 1) n k q.1 (omega arith) (omega arith))
    (cases_eq k from)

pub list_all-range_intro : (p : ℕ → Bool) (from n : ℕ) → ((k : ℕ) → from ≤ k → k < from + n → p k ≡ true)
    → list_all p (range_with_len from n) ≡ true
list_all-range_intro p from zero h = refl
list_all-range_intro p from (suc n) h =
    and_from (p from) (list_all p (range_with_len (from + 1) n)) (h from (omega arith) (omega arith))
    (list_all-range_intro p (from + 1) n (λ k low high. h k (omega arith) (omega arith)))

-- some number of a range passes a test

pub list_any-range : (p : ℕ → Bool) (from n : ℕ) → list_any p (range_with_len from n) ≡ true
    → (k : ℕ) × (from ≤ k) × (k < from + n) × (p k ≡ true)
list_any-range p from zero e = cc
list_any-range p from (suc n) e =
    ⊎_elim
    (λ (q : p from ≡ true). (from, omega arith, omega arith, q))
    (λ (q : list_any p (range_with_len (from + 1) n) ≡ true). let w = list_any-range p (from + 1) n q in
    let low : from + 1 ≤ w.0 = w.1 in
    let high : w.0 < from + 1 + n = w.2 in
    (w.0, omega arith, omega arith, w.3))
    (or_cases (p from) (list_any p (range_with_len (from + 1) n)) e)

pub list_any-of_range : (p : ℕ → Bool) (from n k : ℕ) → from ≤ k → k < from + n → p k ≡ true
    → list_any p (range_with_len from n) ≡ true
list_any-of_range p from zero k low high e = absurd (omega arith)
list_any-of_range p from (suc n) k low high e =
    ⊎_elim
    (λ (same : k ≡ from). or_left (p from) (list_any p (range_with_len (from + 1) n)) (subst (λ j. p j ≡ true) same e))
    (λ (apart : k ≡ from → ⊥). or_right (p from) (list_any p (range_with_len (from + 1) n))
    (list_any-of_range p (from + 1) n k (omega arith) (omega arith) e))
    (cases_eq k from)

-- the greatest number below a limit that passes a test

pub greatest_below-some : (p : ℕ → Bool) (n k : ℕ) → k < n → p k ≡ true → ((j : ℕ) → k < j → j < n → p j ≡ false)
    → greatest_below p n ≡ Some k
unfolding greatest_below
greatest_below-some p zero k below here above = absurd (omega arith)
greatest_below-some p (suc n) k below here above =
    ⊎_elim
    (λ (same : k ≡ n). rw (subst (λ j. p j ≡ true) same here) (ap Some (sym same)))
    (λ (apart : k ≡ n → ⊥). rw (above n (omega arith) (omega arith))
    (greatest_below-some p n k (omega arith) here (λ j low high. above j low (omega arith))))
    (cases_eq k n)

pub greatest_below-none : (p : ℕ → Bool) (n : ℕ) → ((j : ℕ) → j < n → p j ≡ false) → greatest_below p n ≡ None
unfolding greatest_below
greatest_below-none p zero none = refl
greatest_below-none p (suc n) none =
    rw (none n (omega arith)) (greatest_below-none p n (λ j high. none j (omega arith)))

-- what it is, where there is one
pub record IsGreatest (p : ℕ → Bool) (n k : ℕ) : Type 0 where
  pub below : k < n
  pub passes : p k ≡ true
  pub above : (j : ℕ) → k < j → j < n → p j ≡ false

pub greatest_below-is : (p : ℕ → Bool) (n k : ℕ) → greatest_below p n ≡ Some k → IsGreatest p n k
unfolding greatest_below
greatest_below-is p zero k e = cc
greatest_below-is p (suc n) k e = by (greatest_below-is p n k) (p n) refl e
  where
    by : (greatest_below p n ≡ Some k → IsGreatest p n k) → (b : Bool) → p n ≡ b
        → cond b (Some n) (greatest_below p n) ≡ Some k
        → IsGreatest p (suc n) k
    by lower true t f =
        let same : n ≡ k = cc in
        record {
          below = omega arith;
          passes = subst (λ j. p j ≡ true) same t;
          above = λ j low high. absurd (omega arith);
        }
    by lower false t f =
        let g = lower f in
        let low : k < n = g.below in
        record {
          below = omega arith;
          passes = g.passes;
          above = λ j above high. ⊎_elim
              (λ (same : j ≡ n). subst (λ i. p i ≡ false) (sym same) t)
              (λ (apart : j ≡ n → ⊥). g.above j above (omega arith))
              (cases_eq j n);
        }
