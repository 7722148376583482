use Rattle.std.proofs.Common.{subst}
use Rattle.alpha_shadow.specs.Place.{IsFirstBroken, IsLeastUpTo}
use Rattle.alpha_shadow.proofs.LeastBrokenSteps.{IsLeastUpTo-none_broken, IsLeastThere-kept, IsLeastThere-next}
use Rattle.alpha_shadow.proofs.place.lesser_broken.Goals as goal

pub returns-in_default : goal.returns-in_default
returns-in_default c = λ code n e before next.
    IsLeastUpTo-none_broken code c.args.at n c.args.condition c.args.found e before
    (subst (IsFirstBroken code c.args.at c.args.condition) c.in_default.is next)

pub returns-in-Some-found : goal.returns-in-Some-found
returns-in-Some-found c = λ code n e before next.
    IsLeastThere-kept code c.args.at n c.args.condition c.in-Some-found.broken c.in-Some.trigger e
    (subst (IsLeastUpTo code c.args.at n) c.in-Some-found.is before)
    (subst (IsFirstBroken code c.args.at c.args.condition) c.in-Some.is next)
    c.if-broken-trigger.true

pub returns-in_default-found : goal.returns-in_default-found
returns-in_default-found c = λ code n e before next.
    IsLeastThere-next code c.args.at n c.args.condition c.in-Some-found.broken c.in-Some.trigger e
    (subst (IsLeastUpTo code c.args.at n) c.in-Some-found.is before)
    (subst (IsFirstBroken code c.args.at c.args.condition) c.in-Some.is next)
    c.if-broken-trigger.false
