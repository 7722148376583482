use Rattle.std.proofs.lemmas.Bool.{eq-eqb, ne_eqb}
use Rattle.alpha_words.proofs.SetMembers.{meets-members}
use Rattle.alpha_words.proofs.set.RegSet.meets.Goals as goal

pub returns : goal.returns
returns c =
    let some = meets-members c.self.inside.bits c.other.inside.bits c.self.invariant c.other.invariant in
    rw (← c.self.view_is, ← c.other.view_is)
    (λ h. some.0 (λ none. let e = eq-eqb _ _ none in cc), λ h. let e = ne_eqb _ _ (some.1 h) in cc)
