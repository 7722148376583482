use Rattle.std.proofs.Common.{sym, ◌∙◌}
use Rattle.alpha_values.proofs.OutcomeLemmas.{outcome-some, outcome-none}
use Rattle.alpha_values.proofs.results.operate_at.Goals as goal

pub returns-in-Some : goal.returns-in-Some
returns-in-Some c =
    outcome-some c.args.level c.args.op c.args.a c.args.b c.args.old c.in-Some.value
    (sym c.in-Some.is ∙ c.outcome.ensures)

pub returns-in-None : goal.returns-in-None
returns-in-None c =
    outcome-none c.args.level c.args.op c.args.a c.args.b c.args.old c.wrapped_result_of.result
    (sym c.in-None.is ∙ c.outcome.ensures) c.wrapped_result_of.ensures
