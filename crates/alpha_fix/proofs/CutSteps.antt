-- The cuts, one after the other.
use Rattle.std.proofs.Common.{◌≡◌, ◌<◌, ◌≤◌, ◌+◌, ◌-◌, ◌++◌, ◌⊎◌, ℕ, List, [], ◌∷◌, length, drop, sym, ◌∙◌, ap, subst}
use Rattle.std.proofs.Common.{inl, inr, ⊎_elim, append_assoc, arith}
use Rattle.std.proofs.lemmas.List.{append-nil}
use Rattle.std.proofs.lemmas.Bool.{cases_lt}
use Rattle.alpha_shadow.specs.declared.broken.Condition.{Condition}
use Rattle.alpha_shadow.specs.declared.broken.Broken.{Broken}
use Rattle.alpha_shadow.specs.Broken.{IsBroken, IsAccepted}
use Rattle.alpha_shadow.specs.Least.{condition_number, IsLeastBroken}
use Rattle.alpha_fix.specs.Cuts.{IsNextCut, AreCutsAbove, AreCuts, IsBrokenAlone, NoneAlone, NoneFrom, IsLeastFrom}
use Rattle.alpha_fix.specs.Fix.{IsLeastAlone}
use Rattle.alpha_fix.proofs.StretchesAlike.{broken_along}
use Rattle.alpha_fix.proofs.BarredCode.{Stretch-from_suffix, Stretch-to_suffix, broken_within}

-- the rest of the code, judged by itself

pub NoneFrom-accepted_suffix : (code rest : List ℕ) (from : ℕ) → from ≤ length code → rest ≡ drop from code
    → IsAccepted rest
    → NoneFrom code from
NoneFrom-accepted_suffix code rest from within e accepted trigger at c since b =
    subst IsAccepted e accepted (trigger - from) (at - from) c
    (broken_along code trigger at (drop from code) (trigger - from) (at - from)
    (Stretch-to_suffix code from trigger at within since b.order) c b)

least_broken-shifted : (from at trigger other place : ℕ) (c d : Condition) → from ≤ other → from ≤ place
    → (at < place - from)
    ⊎ ((at ≡ place - from)
    × ((trigger < other - from) ⊎ ((trigger ≡ other - from) × (condition_number c ≤ condition_number d))))
    → (from + at < place)
    ⊎ ((from + at ≡ place)
    × ((from + trigger < other) ⊎ ((from + trigger ≡ other) × (condition_number c ≤ condition_number d))))
least_broken-shifted from at trigger other place c d h k o = ⊎_elim
    (λ (l : at < place - from). inl (omega arith))
    (λ w. let e : at ≡ place - from = w.0 in inr (
      omega arith,
      ⊎_elim
          (λ (l : trigger < other - from). inl (omega arith))
          (λ v. let f : trigger ≡ other - from = v.0 in inr (omega arith, v.1))
          w.1,
    ))
    o

pub least_from : (code rest : List ℕ) (from : ℕ) (b : Broken) → from ≤ length code → rest ≡ drop from code
    → IsLeastBroken rest b
    → IsLeastFrom code from (record { trigger = from + b.trigger; at = from + b.at; condition = b.condition })
least_from code rest from b within e l =
    let m = subst (λ (r : List ℕ). IsLeastBroken r b) e l in
    let o = m.broken.order in
    record {
      since = omega arith;
      broken =
          broken_along (drop from code) b.trigger b.at code (from + b.trigger) (from + b.at)
          (Stretch-from_suffix code from b.trigger b.at within o) b.condition m.broken;
      least = λ trigger at c since h.
          let p = h.order in
          least_broken-shifted from b.at b.trigger trigger at b.condition c since (omega arith)
          (m.least (trigger - from) (at - from) c
          (broken_along code trigger at (drop from code) (trigger - from) (at - from)
          (Stretch-to_suffix code from trigger at within since p) c h));
    }

pub IsLeastBroken-within : (code rest : List ℕ) (from : ℕ) (b : Broken) → from ≤ length code → rest ≡ drop from code
    → IsLeastBroken rest b
    → (from + b.trigger ≤ length code) × (from + b.at ≤ length code)
IsLeastBroken-within code rest from b within e l =
    let f = least_from code rest from b within e l in
    let w = broken_within code (from + b.trigger) (from + b.at) b.condition f.broken in
    let o = f.broken.order in
    (omega arith, w)

-- the cuts so far, the last of which is `from`
pub record CutsUpTo (code cuts : List ℕ) (from : ℕ) : Type 0 where
  pub within : from ≤ length code
  pub further : (rest : List ℕ) → AreCutsAbove code from rest → AreCuts code (cuts ++ rest)
  pub alone : (place : ℕ) (c : Condition) → place < from → IsBrokenAlone code place c → ⊥

pub CutsUpTo-start : (code : List ℕ) → CutsUpTo code [] 0
CutsUpTo-start code = record { within = omega arith; further = λ rest are. are; alone = λ place c h b. omega arith }

pub IsNextCut-least : (code : List ℕ) (from : ℕ) (b : Broken) → IsLeastFrom code from b → (b.at ≡ b.trigger → ⊥)
    → IsNextCut code from b.at
IsNextCut-least code from b l apart =
    let o = l.broken.order in
    let since = l.since in
    let above : from < b.at = ⊎_elim (λ (k : b.trigger < b.at). omega arith)
    (λ (k : b.at ≤ b.trigger). let e : b.at ≡ b.trigger = omega arith in absurd (apart e)) (cases_lt b.trigger b.at) in
    record {
      breaks = record { above = above; trigger = b.trigger; since = since; condition = b.condition; broken = l.broken };
      least =
          λ at h. ⊎_elim (λ (k : b.at < at). omega arith) (λ k. let e : b.at ≡ at = k.0 in omega arith)
          (l.least h.trigger at h.condition h.since h.broken);
    }

pub CutsUpTo-next : (code cuts more : List ℕ) (from : ℕ) (b : Broken) → CutsUpTo code cuts from
    → IsLeastFrom code from b → (b.at ≡ b.trigger → ⊥)
    → more ≡ cuts ++ b.at ∷ [] → CutsUpTo code more b.at
CutsUpTo-next code cuts more from b cut l apart e = record {
  within = broken_within code b.trigger b.at b.condition l.broken;
  further = λ rest are.
      subst (λ (c : List ℕ). AreCuts code c) (sym (append_assoc cuts (b.at ∷ []) rest) ∙ ap (λ c. c ++ rest) (sym e))
      (cut.further (b.at ∷ rest) (IsNextCut-least code from b l apart, are));
  alone = λ place c below h. ⊎_elim
      (λ (k : place < from). cut.alone place c k h)
      (λ (k : from ≤ place). ⊎_elim (λ (m : b.at < place). omega arith) (λ m. let f : b.at ≡ place = m.0 in omega arith)
      (l.least place place c k h))
      (cases_lt place from);
}

pub CutsUpTo-AreCuts : (code cuts : List ℕ) (from : ℕ) → CutsUpTo code cuts from → NoneFrom code from
    → AreCuts code cuts
CutsUpTo-AreCuts code cuts from cut none =
    subst (λ (c : List ℕ). AreCuts code c) (append-nil cuts)
    (cut.further [] (λ at h. none h.trigger at h.condition h.since h.broken))

pub CutsUpTo-NoneAlone : (code cuts : List ℕ) (from : ℕ) → CutsUpTo code cuts from → NoneFrom code from → NoneAlone code
CutsUpTo-NoneAlone code cuts from cut none place c h =
    ⊎_elim (λ (k : place < from). cut.alone place c k h) (λ (k : from ≤ place). none place place c k h)
    (cases_lt place from)

pub CutsUpTo-IsLeastAlone : (code cuts : List ℕ) (from : ℕ) (b : Broken) → CutsUpTo code cuts from
    → IsLeastFrom code from b
    → b.at ≡ b.trigger → IsLeastAlone code b
CutsUpTo-IsLeastAlone code cuts from b cut l e = record {
  place = e;
  broken = subst (λ n. IsBroken code b.trigger n b.condition) e l.broken;
  least = λ place c h. ⊎_elim
      (λ (k : place < from). absurd (cut.alone place c k h))
      (λ (k : from ≤ place). ⊎_elim (λ (m : b.at < place). inl (omega arith)) (λ m. m.1) (l.least place place c k h))
      (cases_lt place from);
}

pub next_cut-decreases : (code : List ℕ) (from : ℕ) (b : Broken) → IsLeastFrom code from b → (b.at ≡ b.trigger → ⊥)
    → length code - b.at < length code - from
next_cut-decreases code from b l apart =
    let n = IsNextCut-least code from b l apart in
    let above = n.breaks.above in
    let w = broken_within code b.trigger b.at b.condition l.broken in
    omega arith
