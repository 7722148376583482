use Rattle.std.proofs.Common.{Some, ap, sym, ◌∙◌, inl, refl}
use Rattle.std.specs.Option.{unwrap_or}
use Rattle.alpha_shadow.specs.declared.broken.Condition.TheVariants.{WildBase, LoadThenStore, Locked, Turn}
use Rattle.alpha_shadow.proofs.WordColumns.{no_access}
use Rattle.alpha_shadow.proofs.BreakingTriggers.{IsFirstThat-window_destination, SameDestination-found}
use Rattle.alpha_shadow.proofs.BreakingTriggers.{WildBase-no_access, LoadThenStore-no_store}
use Rattle.alpha_shadow.proofs.BreakingTriggers.{locked_missing}
use Rattle.alpha_shadow.proofs.BreakingTriggers.{turn_missing}
use Rattle.alpha_shadow.proofs.LeastBrokenSteps.{IsLeastUpTo-zero, IsLeastUpTo-skip, IsLeastUpTo-open_skip}
use Rattle.alpha_shadow.proofs.place.broken_by_trigger.Goals as goal

pub returns : goal.returns
returns c = λ code s u h.
    let at = c.args.at in
    let kind = h.kind ∙ ap Some c.requires in
    let access = no_access code at c.args.word.now.kind h.kind (inl c.requires) in
    let d = c.destination.result in
    let same = SameDestination-found code at d kind
    (ap (λ o. unwrap_or o 31) h.sets ∙ sym c.destination.ensures) c.first_with_destination-same.result
    (IsFirstThat-window_destination code c.args.window.now at d s c.first_with_destination-same.result
    c.first_with_destination-same.ensures) in
    let c1 = c.lesser_broken-found.ensures code 0 refl (IsLeastUpTo-zero code at) (c.zero_destination.ensures code h) in
    let c2 = c.lesser_broken-found-2.ensures code 1 refl c1 (c.source_lost.ensures code s u h) in
    let c3 = c.lesser_broken.ensures code 2 refl c2 same in
    let c4 = IsLeastUpTo-skip code at 3 WildBase c.lesser_broken.result refl (WildBase-no_access code at access) c3 in
    let c5 =
    IsLeastUpTo-skip code at 4 LoadThenStore c.lesser_broken.result refl
    (LoadThenStore-no_store code at (λ q. q.1 access)) c4 in
    let c6 = IsLeastUpTo-skip code at 5 Locked c.lesser_broken.result refl (locked_missing code at (λ q. cc)) c5 in
    let c7 = IsLeastUpTo-skip code at 6 Turn c.lesser_broken.result refl (turn_missing code at (λ q. cc)) c6 in
    IsLeastUpTo-open_skip code at c.lesser_broken.result h.within c7
