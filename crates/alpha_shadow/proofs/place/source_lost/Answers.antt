use Rattle.std.proofs.Common.{◌≡◌, ◌≢◌, ◌<◌, ◌≤◌, Some, inl, inr, refl, ap, sym, subst, ◌∙◌, rules}
use Rattle.alpha_words.specs.Regs.{Has}
use Rattle.alpha_table.specs.declared.columns.InsnKind.TheVariants as kinds
use Rattle.alpha_shadow.specs.declared.broken.Condition.TheVariants.{SourceLost}
use Rattle.alpha_shadow.specs.Window.{IsFirstThat}
use Rattle.alpha_shadow.specs.Place.{IsFirstBroken}
use Rattle.alpha_shadow.proofs.BreakingTriggers.{IsFirstThat-window_within, source_lost-first, SourceLost-no_set}
use Rattle.alpha_shadow.proofs.BreakingTriggers.{SourceLost-or_itself}
use Rattle.alpha_shadow.proofs.BreakingTriggers.{SourceLost-first}
use Rattle.alpha_shadow.proofs.place.source_lost.Goals as goal

pub returns-in_err-r : goal.returns-in_err-r
returns-in_err-r c = λ code s u h.
    subst (IsFirstBroken code c.args.at SourceLost) (sym c.from_residual.ensures)
    (SourceLost-no_set code c.args.at (h.sets ∙ c.in_err-r.was))

-- the word doesn't use the register
pub returns-then-not-has : goal.returns-then-not-has
returns-then-not-has c = λ code s u h.
    let w = c.args.window.now in
    let at = c.args.at in
    let r = c.in_ok-r.r in
    let end = c.end.result in
    let not : Has c.args.word.now.uses r → ⊥ = λ q. let t = c.has.ensures.1 q in let f = c.if-not-has.true in cc in
    let m = source_lost-first code w at r end c.args.word.now s u h c.in_ok-r.was c.end-unset.ensures.register
    (inr (not, c.end.ensures.value)) in
    let f = IsFirstThat-window_within code w at c.end-unset.result end s c.first_within.result c.first_within.ensures in
    let g =
    subst (λ n. IsFirstThat code at (λ p. (n ≤ p) × (p < end)) c.first_within.result) c.end-unset.ensures.value f in
    SourceLost-first code w at r end m (λ q. not ((h.uses r).1 q.1)) c.first_within.result g

pub returns-then-eq : goal.returns-then-eq
returns-then-eq c = λ code s u h.
    let w = c.args.window.now in
    let at = c.args.at in
    let r = c.in_ok-r.r in
    let uses : Has c.args.word.now.uses r = c.has.ensures.0 c.if-not-has.false in
    let kind : c.args.word.now.kind ≡ kinds.Trigger = search rules in
    let m =
    source_lost-first code w at r at c.args.word.now s u h c.in_ok-r.was c.end-unset.ensures.register
    (inl (uses, refl)) in
    let f = IsFirstThat-window_within code w at c.end-unset.result at s c.first_within-first.result
    c.first_within-first.ensures in
    let g = subst (λ n. IsFirstThat code at (λ p. (n ≤ p) × (p < at)) c.first_within-first.result)
    c.end-unset.ensures.value f in
    subst (IsFirstBroken code at SourceLost) (sym c.or.ensures)
    (SourceLost-or_itself code w at r at m (h.kind ∙ ap Some kind) ((h.uses r).0 uses) c.first_within-first.result g)

pub returns-else-eq : goal.returns-else-eq
returns-else-eq c = λ code s u h.
    let w = c.args.window.now in
    let at = c.args.at in
    let r = c.in_ok-r.r in
    let uses : Has c.args.word.now.uses r = c.has.ensures.0 c.if-not-has.false in
    let other : c.args.word.now.kind ≢ kinds.Trigger = search rules in
    let k = h.kind in
    let m =
    source_lost-first code w at r at c.args.word.now s u h c.in_ok-r.was c.end-unset.ensures.register
    (inl (uses, refl)) in
    let f = IsFirstThat-window_within code w at c.end-unset.result at s c.first_within-first.result
    c.first_within-first.ensures in
    let g = subst (λ n. IsFirstThat code at (λ p. (n ≤ p) × (p < at)) c.first_within-first.result)
    c.end-unset.ensures.value f in
    SourceLost-first code w at r at m (λ q. other (let t = q.0 in cc)) c.first_within-first.result g
