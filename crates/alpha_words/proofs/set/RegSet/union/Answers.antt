use Rattle.std.proofs.lemmas.Nat.{or_lt}
use Rattle.alpha_words.proofs.SetMembers.{Has-or}
use Rattle.alpha_words.proofs.set.RegSet.union.Goals as goal

pub invariant_of-result : goal.invariant_of-result
invariant_of-result c = or_lt 31 _ _ c.self.invariant c.other.invariant

pub returns : goal.returns
returns c = rw (← c.self.view_is, ← c.other.view_is) (λ k. Has-or c.self.inside.bits c.other.inside.bits k)
