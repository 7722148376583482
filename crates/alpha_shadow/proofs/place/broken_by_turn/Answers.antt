use Rattle.std.proofs.Common.{◌∙◌, ap, Some, inl, inr, refl}
use Rattle.alpha_shadow.specs.declared.broken.Condition.TheVariants.{WildBase, LoadThenStore, Locked}
use Rattle.alpha_shadow.proofs.WordColumns.{no_access}
use Rattle.alpha_shadow.proofs.BreakingTriggers.{WildBase-no_access, LoadThenStore-no_store, locked_missing}
use Rattle.alpha_shadow.proofs.BreakingTriggers.{IsFirstThat-window_first, turn_first}
use Rattle.alpha_shadow.proofs.LeastBrokenSteps.{IsLeastUpTo-skip, IsLeastUpTo-open_skip}
use Rattle.alpha_shadow.proofs.place.broken_by_turn.Goals as goal

pub returns : goal.returns
returns c = λ code s u h.
    let at = c.args.at in
    let k = h.kind in
    let turn = c.requires in
    let access = no_access code at c.args.word.now.kind h.kind (inr (inr (inl turn))) in
    let found = c.broken_by_set-found.result in
    let c4 =
    IsLeastUpTo-skip code at 3 WildBase found refl (WildBase-no_access code at access)
    (c.broken_by_set-found.ensures code s u h) in
    let c5 =
    IsLeastUpTo-skip code at 4 LoadThenStore found refl (LoadThenStore-no_store code at (λ q. q.1 access)) c4 in
    let c6 = IsLeastUpTo-skip code at 5 Locked found refl (locked_missing code at (λ t. cc)) c5 in
    let first = turn_first code at (h.kind ∙ ap Some turn) c.first.result
    (IsFirstThat-window_first code c.args.window.now at s c.first.result c.first.ensures) in
    IsLeastUpTo-open_skip code at c.lesser_broken.result h.within (c.lesser_broken.ensures code 6 refl c6 first)
