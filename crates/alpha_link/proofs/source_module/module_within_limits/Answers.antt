use Rattle.std.proofs.Common.{sym, ap, ◌∙◌}
use Rattle.alpha_link.specs.Made.{bad_field}
use Rattle.alpha_link.proofs.SourceModules.{module_within_limits-err}
use Rattle.alpha_link.proofs.source_module.module_within_limits.Goals as goal

pub returns-in-Some-clause-refused : goal.returns-in-Some-clause-refused
returns-in-Some-clause-refused c =
    λ other is m. module_within_limits-err is c.args.unlinked c.in-Some.field m
    (ap (λ n. bad_field n c.args.unlinked.filled c.args.unlinked.zeroed)
    (sym (c.len.ensures ∙ c.args.unlinked.code.ok.0))
    ∙ (sym c.bad_field-bad.ensures.value ∙ c.in-Some.is))
