use Rattle.std.proofs.Common.{ap, ◌∙◌, drop, length, arith}
use Rattle.alpha_fix.proofs.CutSteps.{NoneFrom-accepted_suffix, least_from, IsLeastBroken-within}
use Rattle.alpha_fix.proofs.cuts.first_broken_from.Goals as goal

pub overflow_add-result : goal.overflow_add-result
overflow_add-result c =
    let e = c.from_place.ensures.code ∙ ap (drop c.args.from) c.code_of.ensures.code in
    let w =
    IsLeastBroken-within c.args.image.now.words c.from_place.result.code c.args.from c.in-Err.broken c.requires e
    c.in-Err.ensures.broken in
    omega (arith, c.from_place.ensures.bound, ap length c.code_of.ensures.code, w.0)

pub overflow_add-result-in-Err : goal.overflow_add-result-in-Err
overflow_add-result-in-Err c =
    let e = c.from_place.ensures.code ∙ ap (drop c.args.from) c.code_of.ensures.code in
    let w =
    IsLeastBroken-within c.args.image.now.words c.from_place.result.code c.args.from c.in-Err.broken c.requires e
    c.in-Err.ensures.broken in
    omega (arith, c.from_place.ensures.bound, ap length c.code_of.ensures.code, w.1)

pub returns-in-Ok : goal.returns-in-Ok
returns-in-Ok c =
    NoneFrom-accepted_suffix c.args.image.now.words c.from_place.result.code c.args.from c.requires
    (c.from_place.ensures.code ∙ ap (drop c.args.from) c.code_of.ensures.code) c.in-Ok.ensures.accepted

pub returns-in-Err : goal.returns-in-Err
returns-in-Err c =
    least_from c.args.image.now.words c.from_place.result.code c.args.from c.in-Err.broken c.requires
    (c.from_place.ensures.code ∙ ap (drop c.args.from) c.code_of.ensures.code) c.in-Err.ensures.broken
