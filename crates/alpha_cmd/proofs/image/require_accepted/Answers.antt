use Rattle.std.proofs.Common.{refl, ap}
use Rattle.alpha_verdict.specs.Report.{broken_line}
use Rattle.alpha_cmd.proofs.image.require_accepted.Goals as goal

pub returns-in-Err-clause-refused : goal.returns-in-Err-clause-refused
returns-in-Err-clause-refused c =
    let place = c.in-Err.broken in
    (place, refl, (c.in-Err.ensures.broken, ap (broken_line place) c.code_base.ensures.value))

pub returns-in-Err-clause-whole : goal.returns-in-Err-clause-whole
returns-in-Err-clause-whole c = λ accepted.
    let place = c.in-Err.broken in
    accepted place.trigger place.at place.condition c.in-Err.ensures.broken.broken
