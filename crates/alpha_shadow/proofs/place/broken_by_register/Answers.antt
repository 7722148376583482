use Rattle.std.proofs.Common.{inl, inr, refl}
use Rattle.alpha_shadow.specs.declared.broken.Condition.TheVariants.{WildBase, LoadThenStore, Locked, Turn}
use Rattle.alpha_shadow.proofs.WordColumns.{no_access}
use Rattle.alpha_shadow.proofs.BreakingTriggers.{WildBase-no_access, LoadThenStore-no_store, locked_missing}
use Rattle.alpha_shadow.proofs.BreakingTriggers.{turn_missing}
use Rattle.alpha_shadow.proofs.LeastBrokenSteps.{IsLeastUpTo-skip, IsLeastUpTo-open_skip}
use Rattle.alpha_shadow.proofs.place.broken_by_register.Goals as goal

pub returns : goal.returns
returns c = λ code s u h.
    let at = c.args.at in
    let k = h.kind in
    let plain = c.requires in
    let access = no_access code at c.args.word.now.kind h.kind (inr (inl plain)) in
    let found = c.broken_by_set.result in
    let c4 = IsLeastUpTo-skip code at 3 WildBase found refl (WildBase-no_access code at access)
    (c.broken_by_set.ensures code s u h) in
    let c5 =
    IsLeastUpTo-skip code at 4 LoadThenStore found refl (LoadThenStore-no_store code at (λ q. q.1 access)) c4 in
    let c6 = IsLeastUpTo-skip code at 5 Locked found refl (locked_missing code at (λ t. cc)) c5 in
    let c7 = IsLeastUpTo-skip code at 6 Turn found refl (turn_missing code at (λ t. cc)) c6 in
    IsLeastUpTo-open_skip code at found h.within c7
