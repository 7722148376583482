-- Where barriers are put so that no place of the code is broken.
use Rattle.std.specs.Prelude.{◌<◌, ◌≤◌, ◌+◌, ◌-◌, ◌++◌, ℕ, zero, suc, List, [], ◌∷◌, take, drop}
use Rattle.alpha_shadow.specs.declared.broken.Condition.{Condition}
use Rattle.alpha_shadow.specs.declared.broken.Broken.{Broken}
use Rattle.alpha_shadow.specs.Broken.{IsBroken}
use Rattle.alpha_shadow.specs.Least.{NoLater}

-- a place behind another one, `from`, is broken for a trigger that doesn't stand before that
pub record BreaksAbove (code : List ℕ) (from at : ℕ) : Type 0 where
  pub above : from < at
  pub trigger : ℕ
  pub since : from ≤ trigger
  pub condition : Condition
  pub broken : IsBroken code trigger at condition

-- the least such place
pub record IsNextCut (code : List ℕ) (from cut : ℕ) : Type 0 where
  pub breaks : BreaksAbove code from cut
  pub least : (at : ℕ) → BreaksAbove code from at → cut ≤ at

-- the cuts behind a place, one behind the other to the last
abbrev pub AreCutsAbove : List ℕ → ℕ → List ℕ → Type 0
AreCutsAbove code from [] = (at : ℕ) → BreaksAbove code from at → ⊥
AreCutsAbove code from (cut ∷ cuts) = IsNextCut code from cut × AreCutsAbove code cut cuts

-- the cuts of the code: the places that a barrier is put before, or at the end of the code behind it
abbrev pub AreCuts : List ℕ → List ℕ → Type 0
AreCuts code cuts = AreCutsAbove code 0 cuts

-- places that rise, the first of them not below a number
abbrev pub Rise : ℕ → List ℕ → Type 0
Rise from [] = Unit {0}
Rise from (cut ∷ cuts) = (from ≤ cut) × Rise (cut + 1) cuts

-- the word of TRAPB
abbrev pub trapb : ℕ
trapb = 0x63ff0000

-- the code from a place on, with a barrier at each of the cuts behind it
abbrev pub barred_from : List ℕ → ℕ → List ℕ → List ℕ
barred_from code from [] = drop from code
barred_from code from (cut ∷ cuts) = take (cut - from) (drop from code) ++ trapb ∷ barred_from code cut cuts

abbrev pub barred : List ℕ → List ℕ → List ℕ
barred code cuts = barred_from code 0 cuts

-- a list without what stands at a place
abbrev pub without : {A : Type 0} → ℕ → List A → List A
without n [] = []
without zero (x ∷ xs) = xs
without (suc n) (x ∷ xs) = x ∷ without n xs

-- some place is broken
pub record HasBroken (code : List ℕ) : Type 0 where
  pub trigger : ℕ
  pub at : ℕ
  pub condition : Condition
  pub broken : IsBroken code trigger at condition

-- a trigger is broken at its own place, where no barrier helps
abbrev pub IsBrokenAlone : List ℕ → ℕ → Condition → Type 0
IsBrokenAlone code place condition = IsBroken code place place condition

abbrev pub NoneAlone : List ℕ → Type 0
NoneAlone code = (place : ℕ) (condition : Condition) → IsBrokenAlone code place condition → ⊥

-- no place is broken for a trigger from a place on
abbrev pub NoneFrom : List ℕ → ℕ → Type 0
NoneFrom code from = (trigger at : ℕ) (condition : Condition) → from ≤ trigger → IsBroken code trigger at condition → ⊥

-- the least broken place for triggers from a place on
pub record IsLeastFrom (code : List ℕ) (from : ℕ) (b : Broken) : Type 0 where
  pub since : from ≤ b.trigger
  pub broken : IsBroken code b.trigger b.at b.condition
  pub least : (trigger at : ℕ) (condition : Condition) → from ≤ trigger → IsBroken code trigger at condition
      → NoLater b trigger at condition
