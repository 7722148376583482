use Rattle.std.proofs.Common.{◌≡◌, ◌<◌, ◌↔◌, ⊎_elim, inl, inr}
use Rattle.alpha_words.specs.Regs.{Has}
use Rattle.std.proofs.lemmas.Nat.{or_lt}
use Rattle.alpha_words.proofs.SetMembers.{Has-or}
use Rattle.alpha_words.proofs.set.RegSet.with.Goals as goal

pub invariant_of-result : goal.invariant_of-result
invariant_of-result c = or_lt 31 _ _ c.self.invariant c.bit.ensures.bound

pub returns : goal.returns
returns c = rw (← c.self.view_is) (λ k.
    let either = Has-or c.self.inside.bits c.bit.result k in
    let one : Has c.bit.result k ↔ ((k ≡ c.args.r) × (k < 31)) = c.bit.ensures.members k in (
      λ h. ⊎_elim (λ p. inl p) (λ p. inr (one.0 p)) (either.0 h),
      ⊎_elim (λ p. either.1 (inl p)) (λ p. either.1 (inr (one.1 p))),
    ))
