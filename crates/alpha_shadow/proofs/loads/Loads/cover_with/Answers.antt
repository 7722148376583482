use Rattle.std.proofs.Common.{◌++◌, ◌∷◌, [], subst, take}
use Rattle.alpha_shadow.specs.OpenLists.{IsCover}
use Rattle.alpha_shadow.proofs.Covers.{cover_joined}
use Rattle.alpha_shadow.proofs.loads.Loads.cover_with.Goals as goal

pub returns : goal.returns
returns c =
    let inside = c.self.inside in
    let all = subst (λ cover. IsCover cover (take inside.len inside.held)) c.in_ok-self.was c.self.invariant.2 in
    subst (λ held. IsCover c.join.result (held.items ++ c.args.load.now ∷ [])) c.self.view_is
    (cover_joined c.in_ok-self.field-0 c.args.load.now c.join.result
    (take inside.len inside.held) all c.join.ensures.first c.join.ensures.second)
