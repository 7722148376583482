-- Code has cuts, or a first trigger that is broken at its own place; and each of them is one alone.
use Rattle.std.proofs.Common.{◌≡◌, ◌<◌, ◌≤◌, ◌+◌, ◌-◌, ◌++◌, ◌⊎◌, ℕ, zero, suc, List, [], ◌∷◌, length, drop, refl, sym}
use Rattle.std.proofs.Common.{◌∙◌, ap, inl, inr, ⊎_elim, arith}
use Rattle.std.proofs.lemmas.Bool.{cases_eq}
use Rattle.alpha_shadow.specs.declared.broken.Condition.{Condition}
use Rattle.alpha_shadow.specs.declared.broken.Broken.{Broken}
use Rattle.alpha_shadow.specs.Broken.{IsAccepted}
use Rattle.alpha_shadow.specs.Least.{IsLeastBroken, condition_number}
use Rattle.alpha_shadow.proofs.ConditionNumbers.{condition_number-injective}
use Rattle.alpha_shadow.proofs.Decided.{IsAccepted-or_IsLeastBroken}
use Rattle.alpha_fix.specs.Cuts.{AreCuts, NoneAlone, NoneFrom, IsLeastFrom}
use Rattle.alpha_fix.specs.Fix.{IsLeastAlone}
use Rattle.alpha_fix.proofs.CutSteps.{CutsUpTo, CutsUpTo-start, CutsUpTo-next, next_cut-decreases, CutsUpTo-AreCuts}
use Rattle.alpha_fix.proofs.CutSteps.{CutsUpTo-NoneAlone, CutsUpTo-IsLeastAlone}
use Rattle.alpha_fix.proofs.CutSteps.{NoneFrom-accepted_suffix, least_from}

-- cuts and no trigger that is broken at its own place, or the first such trigger
abbrev pub HasCutOutcome : List ℕ → Type 0
HasCutOutcome code = (NoneAlone code × ((cuts : List ℕ) × AreCuts code cuts)) ⊎ ((b : Broken) × IsLeastAlone code b)

from_here : (code : List ℕ) (from : ℕ) → from ≤ length code
    → NoneFrom code from ⊎ ((b : Broken) × IsLeastFrom code from b)
from_here code from within = ⊎_elim
    (λ (a : IsAccepted (drop from code)). inl (NoneFrom-accepted_suffix code (drop from code) from within refl a))
    (λ (b : (b : Broken) × IsLeastBroken (drop from code) b). inr (
      record { trigger = from + b.0.trigger; at = from + b.0.at; condition = b.0.condition },
      least_from code (drop from code) from b.0 within refl b.1,
    ))
    (IsAccepted-or_IsLeastBroken (drop from code))

cuts_from : (fuel : ℕ) (code cuts : List ℕ) (from : ℕ) → length code - from < fuel → CutsUpTo code cuts from
    → HasCutOutcome code
cuts_from zero code cuts from h cut = absurd (omega arith)
cuts_from (suc fuel) code cuts from h cut = ⊎_elim
    (λ (none : NoneFrom code from).
    inl (CutsUpTo-NoneAlone code cuts from cut none, (cuts, CutsUpTo-AreCuts code cuts from cut none)))
    (λ (b : (b : Broken) × IsLeastFrom code from b). ⊎_elim
    (λ (e : b.0.at ≡ b.0.trigger). inr (b.0, CutsUpTo-IsLeastAlone code cuts from b.0 cut b.1 e))
    (λ (apart : b.0.at ≡ b.0.trigger → ⊥).
    let f = next_cut-decreases code from b.0 b.1 apart in
    cuts_from fuel code (cuts ++ b.0.at ∷ []) b.0.at (omega arith)
    (CutsUpTo-next code cuts (cuts ++ b.0.at ∷ []) from b.0 cut b.1 apart refl))
    (cases_eq b.0.at b.0.trigger))
    (from_here code from cut.within)

pub HasCutOutcome-some : (code : List ℕ) → HasCutOutcome code
HasCutOutcome-some code = cuts_from (suc (length code)) code [] 0 (omega arith) (CutsUpTo-start code)

same_broken : (b c : Broken) → b.trigger ≡ c.trigger → b.at ≡ c.at → b.condition ≡ c.condition → b ≡ c
same_broken b c e f g =
    ap (λ (t : ℕ). record b { trigger = t }) e
    ∙ (ap (λ (a : ℕ). record b { trigger = c.trigger; at = a }) f
    ∙ ap (λ (d : Condition). record c { condition = d }) g)

pub IsLeastAlone-unique : (code : List ℕ) (b c : Broken) → IsLeastAlone code b → IsLeastAlone code c → b ≡ c
IsLeastAlone-unique code b c f g =
    let p = f.least c.trigger c.condition g.broken in
    let q = g.least b.trigger b.condition f.broken in
    let e : b.trigger ≡ c.trigger = ⊎_elim
    (λ (l : b.trigger < c.trigger). ⊎_elim (λ (m : c.trigger < b.trigger). absurd (omega arith)) (λ m. sym m.0) q)
    (λ l. l.0) p in
    let low : condition_number b.condition ≤ condition_number c.condition =
    ⊎_elim (λ (l : b.trigger < c.trigger). absurd (omega arith)) (λ l. l.1) p in
    let high : condition_number c.condition ≤ condition_number b.condition =
    ⊎_elim (λ (l : c.trigger < b.trigger). absurd (omega arith)) (λ l. l.1) q in
    same_broken b c e (f.place ∙ (e ∙ sym g.place)) (condition_number-injective b.condition c.condition (omega arith))
