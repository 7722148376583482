-- What was noted for each register, word by word.
use Rattle.std.proofs.Common.{◌≡◌, ◌≤◌, ◌+◌, ◌⊎◌, ◌↔◌, ℕ, List, slice_index, subst, sym, inl, inr, ⊎_elim, arith}
use Rattle.std.proofs.Common.{add-one}
use Rattle.std.proofs.lemmas.Bool.{cases_eq}
use Rattle.alpha_shadow.specs.Code.{Sets, Uses, SetIn}
use Rattle.alpha_shadow.specs.Window.{IsOpen, UsedIn, AreEnds, Notes}
use Rattle.alpha_shadow.proofs.Shadows.{IsOpen-suc_cases}

-- a word at a place did something with the register
pub record MeetsRegister (In : ℕ → ℕ → ℕ → Type 0) (Here : ℕ → ℕ → Type 0) : Type 0 where
  pub none : (p r : ℕ) → In p p r → ⊥
  pub more : (p at r : ℕ) → p ≤ at → In p (at + 1) r ↔ (In p at r ⊎ Here at r)

pub set_meets : (code : List ℕ) → MeetsRegister (SetIn code) (Sets code)
set_meets code = record {
  none = λ p r h. let a = h.above in let b = h.below in omega arith;
  more = λ p at r within. (
    λ h. ⊎_elim
        (λ (e : h.place ≡ at). inr (subst (λ k. Sets code k r) e h.sets))
        (λ (e : h.place ≡ at → ⊥).
        inl (record { place = h.place; above = h.above; below = let b = h.below in omega arith; sets = h.sets }))
        (cases_eq h.place at),
    ⊎_elim
        (λ (h : SetIn code p at r).
        record { place = h.place; above = h.above; below = let b = h.below in omega arith; sets = h.sets })
        (λ (h : Sets code at r). record { place = at; above = within; below = omega arith; sets = h }),
  );
}

pub used_meets : (code : List ℕ) → MeetsRegister (UsedIn code) (Uses code)
used_meets code = record {
  none = λ p r h. let a = h.above in let b = h.below in omega arith;
  more = λ p at r within. (
    λ h. ⊎_elim
        (λ (e : h.place ≡ at). inr (subst (λ k. Uses code k r) e h.uses))
        (λ (e : h.place ≡ at → ⊥).
        inl (record { place = h.place; above = h.above; below = let b = h.below in omega arith; uses = h.uses }))
        (cases_eq h.place at),
    ⊎_elim
        (λ (h : UsedIn code p at r).
        record { place = h.place; above = h.above; below = let b = h.below in omega arith; uses = h.uses })
        (λ (h : Uses code at r). record { place = at; above = within; below = omega arith; uses = h }),
  );
}

pub ends_next : (code : List ℕ) (at : ℕ) (In : ℕ → ℕ → ℕ → Type 0) (Here : ℕ → ℕ → Type 0) (before after : List ℕ)
    → MeetsRegister In Here → Notes (Here at) at before after → AreEnds code at In before
    → AreEnds code (at + 1) In after
ends_next code at In Here before after m n ends = record {
  size = n.size;
  within =
      λ r. let w = ends.within r in
      ⊎_elim (λ q. let e = q.1 in omega arith) (λ q. let e = q.1 in omega arith) (n.either r);
  tells = λ p r h small.
      let was = IsOpen-suc_cases code at p (subst (IsOpen code p) (add-one at) h) in
      let below : p ≤ at = let b = h.before in omega arith in
      let more = m.more p at r below in
      ⊎_elim
      (λ (q : Here at r × (slice_index after r ≡ at + 1)). let e = q.1 in (λ k. omega arith, λ k. more.1 (inr q.0)))
      (λ (q : (Here at r → ⊥) × (slice_index after r ≡ slice_index before r)).
      let e = q.1 in (
        λ k. ⊎_elim
            (λ o. let t = (ends.tells p r o small).0 (⊎_elim (λ x. x) (λ x. absurd (q.0 x)) (more.0 k)) in omega arith)
            (λ o. absurd (⊎_elim (λ x. m.none p r (subst (λ k. In p k r) (sym o.0) x)) (λ x. q.0 x) (more.0 k)))
            was,
        λ k. ⊎_elim
            (λ o. more.1 (inl ((ends.tells p r o small).1 (omega arith))))
            (λ o. let w = ends.within r in absurd (omega (arith, o.0)))
            was,
      ))
      (n.either r);
}

-- a word in no shadow
pub ends_skip : (code : List ℕ) (at : ℕ) (In : ℕ → ℕ → ℕ → Type 0) (ends : List ℕ)
    → ((p : ℕ) → IsOpen code p (at + 1) → ⊥)
    → AreEnds code at In ends → AreEnds code (at + 1) In ends
ends_skip code at In ends none e = record {
  size = e.size;
  within = λ r. let w = e.within r in omega arith;
  tells = λ p r h small. absurd (none p h);
}
