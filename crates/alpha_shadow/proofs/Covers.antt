-- A cover of loads: how it grows.
use Rattle.std.proofs.Common.{◌++◌, ◌∷◌, [], List, zero, suc, Option, Some, None, All, IfSome, arith, ◌∙◌}
use Rattle.std.proofs.lemmas.Int.{ints}
use Rattle.std.proofs.lemmas.List.Elements.{All-append}
use Rattle.alpha_shadow.specs.declared.loads.Reach.{Reach}
use Rattle.alpha_shadow.specs.OpenLists.{IsAround, IsCover}

around_both : (both cover load : Reach) → IsAround both cover → IsAround cover load → IsAround both load
around_both both cover load outer inner =
    let low = outer.1 in
    let high = outer.2 in
    let low_inner = inner.1 in
    let high_inner = inner.2 in
    (inner.0 ∙ outer.0, omega (arith, ints), omega (arith, ints))

around_one : (both load : Reach) → IsAround both load → All (IsAround both) (load ∷ [])
around_one both load around zero d l = around
around_one both load around (suc k) d l = absurd (omega arith)

-- what joins the cover and one more load is a cover of all
pub cover_joined : (cover load : Reach) (joined : Option Reach) (loads : List Reach) → All (IsAround cover) loads
    → IfSome joined (λ both. IsAround both cover) → IfSome joined (λ both. IsAround both load)
    → IsCover joined (loads ++ load ∷ [])
cover_joined cover load None loads all first second = tt
cover_joined cover load (Some both) loads all first second =
    All-append (IsAround both) loads (load ∷ []) (λ k d l. around_both both cover _ first (all k d l))
    (around_one both load second)
