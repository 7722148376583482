use Rattle.alpha_words.proofs.SetMembers.{Has-and_not}
use Rattle.alpha_words.proofs.set.RegSet.difference.Goals as goal

pub returns : goal.returns
returns c =
    rw (← c.self.view_is, ← c.other.view_is)
    (λ k. Has-and_not c.self.inside.bits c.other.inside.bits k c.self.invariant c.other.invariant)
