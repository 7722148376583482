use Rattle.std.proofs.Common.{◌≡◌, Some, None, refl}
use Rattle.alpha_table.specs.declared.columns.InsnKind.TheVariants as kinds
use Rattle.alpha_shadow.specs.declared.broken.Condition.TheVariants.{ZeroDestination, SameDestination}
use Rattle.alpha_shadow.specs.Code.{kind_at}
use Rattle.alpha_shadow.proofs.BreakingTriggers.{ZeroDestination-missing, SameDestination-missing}
use Rattle.alpha_shadow.proofs.LeastBrokenSteps.{IsLeastUpTo-zero, IsLeastUpTo-skip}
use Rattle.alpha_shadow.proofs.place.broken_by_set.Goals as goal

pub returns : goal.returns
returns c = λ code s u h.
    let at = c.args.at in
    let k = h.kind in
    let trigger : kind_at code at ≡ Some kinds.Trigger → ⊥ = λ t. c.requires cc in
    let c1 = IsLeastUpTo-skip code at 0 ZeroDestination None refl (ZeroDestination-missing code at (λ q. trigger q.0))
    (IsLeastUpTo-zero code at) in
    let c2 = c.lesser_broken.ensures code 1 refl c1 (c.source_lost.ensures code s u h) in
    IsLeastUpTo-skip code at 2 SameDestination c.lesser_broken.result refl (SameDestination-missing code at trigger) c2
