use Rattle.std.proofs.Common.{rules}
use Rattle.alpha_shadow.proofs.loads.Reach.join.Goals as goal

pub returns-clause-second : goal.returns-clause-second
returns-clause-second c =
    let least = c.min.ensures.other_bound in
    let greatest = c.max.ensures.other_bound in
    (search rules, search rules, search rules)
