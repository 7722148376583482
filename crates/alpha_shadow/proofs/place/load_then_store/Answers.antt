use Rattle.std.proofs.Common.{◌≡◌, Some, ap, subst, sym, ◌∙◌, ⊎_elim, rules}
use Rattle.std.specs.List.{Any}
use Rattle.alpha_table.specs.declared.columns.InsnKind.TheVariants as kinds
use Rattle.alpha_shadow.specs.declared.broken.Condition.TheVariants.{LoadThenStore}
use Rattle.alpha_shadow.specs.Place.{IsFirstBroken}
use Rattle.alpha_shadow.specs.Reach.{MayTouch, reach_of}
use Rattle.alpha_shadow.proofs.OpenLoads.{any_open_load}
use Rattle.alpha_shadow.proofs.BreakingTriggers.{IsFirstThat-window_first, LoadThenStore-found, LoadThenStore-missing}
use Rattle.alpha_shadow.proofs.place.load_then_store.Goals as goal

pub returns-then-eq : goal.returns-then-eq
returns-then-eq c = λ code at s h.
    let a = c.in_ok-store.store in
    let loads = c.args.window.now.loads.items in
    let r = c.first_with_load_that_may_meet.result in
    let kind : c.args.word.now.kind ≡ kinds.Store = search rules in
    let open_load = any_open_load code (reach_of a) at in
    ⊎_elim (λ (p : Any (λ load. MayTouch load c.of.result) loads × _).
    let any = subst (λ r. Any (λ load. MayTouch load r) loads) c.of.ensures p.0 in
    let touches = open_load.0 (subst (Any (λ load. MayTouch load (reach_of a))) s.loads any) in
    LoadThenStore-found code at a (h.kind ∙ ap Some kind)
    (h.access ∙ (sym c.access.ensures ∙ c.in_ok-store.was)) touches r
    (IsFirstThat-window_first code c.args.window.now at s r p.1))
    (λ (q : ¬ Any (λ load. MayTouch load c.of.result) loads × _).
    subst (IsFirstBroken code at LoadThenStore) (sym q.1)
    (LoadThenStore-missing code at a (h.access ∙ (sym c.access.ensures ∙ c.in_ok-store.was)) (λ t.
    let any = subst (Any (λ load. MayTouch load (reach_of a))) (sym s.loads) (open_load.1 t) in
    q.0 (subst (λ r. Any (λ load. MayTouch load r) loads) (sym c.of.ensures) any))))
    c.first_with_load_that_may_meet.ensures
