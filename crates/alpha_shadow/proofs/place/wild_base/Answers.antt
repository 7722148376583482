use Rattle.std.proofs.Common.{◌<◌, ◌≤◌, None, Some, slice_index, arith, subst, sym, ◌∙◌}
use Rattle.alpha_shadow.specs.declared.broken.Condition.TheVariants.{WildBase}
use Rattle.alpha_shadow.specs.Window.{IsFirstThat}
use Rattle.alpha_shadow.specs.Place.{IsFirstBroken}
use Rattle.alpha_shadow.proofs.BreakingTriggers.{IsFirstThat-window_first, WildBase-first_open, WildBase-none_open}
use Rattle.alpha_shadow.proofs.BreakingTriggers.{IsFirstThat-first_has}
use Rattle.alpha_shadow.proofs.BreakingTriggers.{IsFirstThat-first_lacks}
use Rattle.alpha_shadow.proofs.place.wild_base.Goals as goal

pub returns-in_err-first : goal.returns-in_err-first
returns-in_err-first c = λ code at s h.
    subst (IsFirstBroken code at WildBase) (sym c.from_residual-in_err-first.ensures)
    (WildBase-none_open code at
    (subst (IsFirstThat code at (λ p. Unit {0})) c.in_err-first.was
    (IsFirstThat-window_first code c.args.window.now at s c.first.result c.first.ensures)))

pub returns-then-first-end : goal.returns-then-first-end
returns-then-first-end c = λ code at s h.
    let a = c.in_ok-access.access in
    let first = c.in_ok-first.first in
    let f = subst (IsFirstThat code at (λ p. Unit {0})) c.in_ok-first.was
    (IsFirstThat-window_first code c.args.window.now at s c.first.result c.first.ensures) in
    let less : first < slice_index c.args.window.now.set.ends a.base =
    let e = c.end.ensures.value in let t = c.if-first-end.true in omega arith in
    WildBase-first_open code c.args.window.now at a s c.end.ensures.register
    (h.access ∙ (sym c.access.ensures ∙ c.in_ok-access.was)) (Some first)
    (IsFirstThat-first_has code at (λ p. p < slice_index c.args.window.now.set.ends a.base) first f less)

pub returns-else-first-end : goal.returns-else-first-end
returns-else-first-end c = λ code at s h.
    let a = c.in_ok-access.access in
    let first = c.in_ok-first.first in
    let f = subst (IsFirstThat code at (λ p. Unit {0})) c.in_ok-first.was
    (IsFirstThat-window_first code c.args.window.now at s c.first.result c.first.ensures) in
    let more : slice_index c.args.window.now.set.ends a.base ≤ first =
    let e = c.end.ensures.value in let t = c.if-first-end.false in omega arith in
    WildBase-first_open code c.args.window.now at a s c.end.ensures.register
    (h.access ∙ (sym c.access.ensures ∙ c.in_ok-access.was)) None
    (IsFirstThat-first_lacks code at (λ p. p < slice_index c.args.window.now.set.ends a.base) first f
    (λ p above q. omega arith)
    (λ q. omega arith))
