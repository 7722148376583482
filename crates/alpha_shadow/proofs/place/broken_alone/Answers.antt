use Rattle.std.proofs.Common.{Some, ap, ◌∙◌, refl}
use Rattle.alpha_shadow.proofs.LeastBrokenSteps.{IsLeastUpTo-zero}
use Rattle.alpha_shadow.proofs.LoneTriggers.{trigger-alone}
use Rattle.alpha_shadow.proofs.place.broken_alone.Goals as goal

pub returns : goal.returns
returns c = λ code none h.
    let at = c.args.at in
    let kind = h.kind ∙ ap Some c.requires in
    let c1 = c.lesser_broken-found.ensures code 0 refl (IsLeastUpTo-zero code at) (c.zero_destination.ensures code h) in
    let c2 = c.lesser_broken.ensures code 1 refl c1 (c.source_lost_at_once.ensures code none h) in
    trigger-alone code at c.lesser_broken.result none kind h.within c2
