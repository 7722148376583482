use Rattle.std.proofs.Common.{◌≡◌, ◌<◌, ◌↔◌}
use Rattle.alpha_words.specs.Regs.{Has}
use Rattle.alpha_words.proofs.SetMembers.{Has-and_not, Has-below}
use Rattle.alpha_words.proofs.set.RegSet.without.Goals as goal

pub returns : goal.returns
returns c = rw (← c.self.view_is) (λ k.
    let both = Has-and_not c.self.inside.bits c.bit.result k c.self.invariant c.bit.ensures.bound in
    let one : Has c.bit.result k ↔ ((k ≡ c.args.r) × (k < 31)) = c.bit.ensures.members k in (
      λ h. let p = both.0 h in (p.0, λ e. p.1 (one.1 (e, Has-below _ _ c.self.invariant p.0))),
      λ h. both.1 (h.0, λ p. let e = one.0 p in h.1 e.0),
    ))
