use Rattle.std.proofs.Common.{◌≡◌, Some, refl, ⊎_elim}
use Rattle.alpha_table.specs.declared.columns.InsnKind.TheVariants as kinds
use Rattle.alpha_shadow.specs.declared.broken.Condition.TheVariants.{Turn}
use Rattle.alpha_shadow.specs.Code.{kind_at}
use Rattle.alpha_shadow.proofs.BreakingTriggers.{turn_missing}
use Rattle.alpha_shadow.proofs.LeastBrokenSteps.{IsLeastUpTo-skip, IsLeastUpTo-open_skip}
use Rattle.alpha_shadow.proofs.place.broken_by_access.Goals as goal

pub returns : goal.returns
returns c = λ code s u h.
    let at = c.args.at in
    let word = c.args.word.now in
    let k = h.kind in
    let turns : kind_at code at ≡ Some kinds.Turn → ⊥ = λ t. ⊎_elim (λ (q : word.kind ≡ kinds.Load). cc)
    (⊎_elim (λ (q : word.kind ≡ kinds.Store). cc) (λ (q : word.kind ≡ kinds.Locked). cc)) c.requires in
    let c4 =
    c.lesser_broken-found.ensures code 3 refl (c.broken_by_set-found.ensures code s u h)
    (c.wild_base.ensures code at s h) in
    let c5 = c.lesser_broken-found-2.ensures code 4 refl c4 (c.load_then_store.ensures code at s h) in
    let c6 = c.lesser_broken.ensures code 5 refl c5 (c.locked_access.ensures code at s h) in
    let c7 = IsLeastUpTo-skip code at 6 Turn c.lesser_broken.result refl (turn_missing code at turns) c6 in
    IsLeastUpTo-open_skip code at c.lesser_broken.result h.within c7
