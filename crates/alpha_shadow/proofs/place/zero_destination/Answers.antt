use Rattle.std.proofs.Common.{◌≡◌, Some, ap, sym, ◌∙◌, eqb-true, eq-eqb}
use Rattle.std.specs.Option.{unwrap_or}
use Rattle.alpha_shadow.proofs.BreakingTriggers.{ZeroDestination-found, ZeroDestination-missing}
use Rattle.alpha_shadow.proofs.place.zero_destination.Goals as goal

pub returns-then-eq : goal.returns-then-eq
returns-then-eq c = λ code h.
    let zero : c.destination.result ≡ 31 = eqb-true c.destination.result 31 (sym c.eq.ensures ∙ c.if-eq.true) in
    ZeroDestination-found code c.args.at (h.kind ∙ ap Some c.requires)
    (ap (λ o. unwrap_or o 31) h.sets ∙ (sym c.destination.ensures ∙ zero))

pub returns-else-eq : goal.returns-else-eq
returns-else-eq c = λ code h.
    ZeroDestination-missing code c.args.at (λ q.
    let e = eq-eqb c.destination.result 31 (c.destination.ensures ∙ (ap (λ o. unwrap_or o 31) (sym h.sets) ∙ q.1)) in
    let t = c.eq.ensures in
    let f = c.if-eq.false in
    cc)
