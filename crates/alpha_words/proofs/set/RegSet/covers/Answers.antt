use Rattle.std.proofs.lemmas.Bool.{eq-eqb, eqb-true}
use Rattle.alpha_words.proofs.SetMembers.{covers-members}
use Rattle.alpha_words.proofs.set.RegSet.covers.Goals as goal

pub returns : goal.returns
returns c =
    let all = covers-members c.self.inside.bits c.other.inside.bits in
    rw (← c.self.view_is, ← c.other.view_is) (λ h. all.0 (eqb-true _ _ h), λ h. eq-eqb _ _ (all.1 h))
