-- The least broken place at a place, one more condition at a time.
use Rattle.std.proofs.Common.{◌≡◌, ◌<◌, ◌≤◌, ◌+◌, ◌⊎◌, ℕ, Option, Some, None, List, length, inl, inr, ⊎_elim, arith}
use Rattle.std.proofs.Common.{subst, sym, refl, ◌∙◌, lit≤}
use Rattle.std.proofs.lemmas.Bool.{cases_eq, cases_lt}
use Rattle.alpha_shadow.specs.declared.broken.Condition.{Condition}
use Rattle.alpha_shadow.specs.declared.broken.Condition.TheVariants.{ZeroDestination, Open}
use Rattle.alpha_shadow.specs.declared.broken.Broken.{Broken}
use Rattle.alpha_shadow.specs.Broken.{IsBroken}
use Rattle.alpha_shadow.specs.Least.{condition_number}
use Rattle.alpha_shadow.specs.Place.{IsFirstBroken, IsLeastUpTo, IsLeastThere}
use Rattle.alpha_shadow.proofs.ConditionNumbers.{condition_number-injective}

-- a condition among the first n + 1 is among the first n, or is the next
condition-split : (code : List ℕ) (at n p : ℕ) (c d : Condition) → condition_number c ≡ n + 1
    → condition_number d ≤ n + 1
    → IsBroken code p at d
    → (condition_number d ≤ n) ⊎ ((condition_number d ≡ n + 1) × IsBroken code p at c)
condition-split code at n p c d e within b = ⊎_elim
    (λ (q : condition_number d ≡ n + 1).
    inr (q, subst (IsBroken code p at) (condition_number-injective d c (q ∙ sym e)) b))
    (λ not. inl (omega arith))
    (cases_eq (condition_number d) (n + 1))

pub IsLeastUpTo-none_broken : (code : List ℕ) (at n : ℕ) (c : Condition) (found : Option Broken)
    → condition_number c ≡ n + 1
    → IsLeastUpTo code at n found
    → IsFirstBroken code at c None → IsLeastUpTo code at (n + 1) found
IsLeastUpTo-none_broken code at n c None e before next =
    λ p d within b. ⊎_elim (λ q. before p d q b) (λ q. next p q.1) (condition-split code at n p c d e within b)
IsLeastUpTo-none_broken code at n c (Some found) e before next = record {
  place = before.place;
  broken = before.broken;
  number = let q = before.number in omega arith;
  least =
      λ p d within b.
      ⊎_elim (λ q. before.least p d q b) (λ q. absurd (next p q.1)) (condition-split code at n p c d e within b);
}

pub IsLeastThere-kept : (code : List ℕ) (at n : ℕ) (c : Condition) (found : Broken) (trigger : ℕ)
    → condition_number c ≡ n + 1
    → IsLeastThere code at n found
    → IsFirstBroken code at c (Some trigger) → found.trigger ≤ trigger → IsLeastThere code at (n + 1) found
IsLeastThere-kept code at n c found trigger e before next less = record {
  place = before.place;
  broken = before.broken;
  number = let q = before.number in omega arith;
  least = λ p d within b. ⊎_elim
      (λ q. before.least p d q b)
      (λ q.
      let f = next.1 p q.1 in
      let m = before.number in
      ⊎_elim (λ (r : found.trigger < p). inl r) (λ (r : p ≤ found.trigger). inr (omega arith, omega (arith, q.0)))
      (cases_lt found.trigger p))
      (condition-split code at n p c d e within b);
}

pub IsLeastThere-next : (code : List ℕ) (at n : ℕ) (c : Condition) (found : Broken) (trigger : ℕ)
    → condition_number c ≡ n + 1
    → IsLeastThere code at n found
    → IsFirstBroken code at c (Some trigger) → trigger < found.trigger
    → IsLeastThere code at (n + 1) (record { trigger = trigger; at = at; condition = c })
IsLeastThere-next code at n c found trigger e before next less = record {
  place = refl;
  broken = next.0;
  number = omega arith;
  least = λ p d within b. ⊎_elim
      (λ q. ⊎_elim (λ r. inl (omega arith)) (λ r. inl (omega (arith, r.0))) (before.least p d q b))
      (λ q. let f = next.1 p q.1 in
      ⊎_elim (λ (r : trigger < p). inl r) (λ (r : p ≤ trigger). inr (omega arith, omega (arith, q.0)))
      (cases_lt trigger p))
      (condition-split code at n p c d e within b);
}

-- C8 holds at no place of the code
pub IsLeastUpTo-open_skip : (code : List ℕ) (at : ℕ) (found : Option Broken) → at < length code
    → IsLeastUpTo code at 7 found
    → IsLeastUpTo code at 8 found
IsLeastUpTo-open_skip code at found within before =
    IsLeastUpTo-none_broken code at 7 Open found refl before (λ p b. let e = b.holds in omega arith)

-- no condition was looked at yet
pub IsLeastUpTo-zero : (code : List ℕ) (at : ℕ) → IsLeastUpTo code at 0 None
IsLeastUpTo-zero code at = λ p d within b. positive d within
  where
    positive : (d : Condition) → condition_number d ≤ 0 → ⊥
    positive ZeroDestination h = omega arith
    positive d h = omega arith

-- there are no more than nine
pub number_bound : (d : Condition) → condition_number d ≤ 9
number_bound ZeroDestination = lit≤ tt
number_bound d = lit≤ tt

-- a condition that breaks nothing there
pub IsLeastUpTo-skip : (code : List ℕ) (at n : ℕ) (c : Condition) (found : Option Broken) → condition_number c ≡ n + 1
    → IsFirstBroken code at c None
    → IsLeastUpTo code at n found → IsLeastUpTo code at (n + 1) found
IsLeastUpTo-skip code at n c found e none before = IsLeastUpTo-none_broken code at n c found e before none
