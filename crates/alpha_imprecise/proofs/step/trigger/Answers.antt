use Rattle.std.proofs.Common.{Option, Some, sym, ap, subst, ◌∙◌}
use Rattle.alpha_imprecise.specs.declared.pending.Pending.{Pending}
use Rattle.alpha_imprecise.specs.Chosen.{triggering}
use Rattle.alpha_imprecise.specs.StepResult.{Triggered, with_register}
use Rattle.alpha_imprecise.specs.ImpreciseState.{imprecise_state}
use Rattle.alpha_imprecise.specs.ImpreciseStepEffect.{StepsBy}
use Rattle.alpha_imprecise.proofs.ChoicesMade.{trigger-steps}
use Rattle.alpha_imprecise.proofs.step.trigger.Goals as goal

pub returns-clause-step : goal.returns-clause-step
returns-clause-step c =
    let m = c.args.machine.now in
    let o = c.args.overflow.now in
    let left : Option Pending = Some (record { trigger = o.place; mask = c.mask_with.result; waited = 0 }) in
    subst (λ (p : Option Pending). StepsBy (Triggered c.args.value)
    (triggering c.args.value).choice (imprecise_state m p) (imprecise_state c.set.new.self left))
    (sym c.requires.none)
    (trigger-steps m c.set.new.self o.place o.rc c.args.value c.mask_with.result c.requires.overflows c.set.ensures
    (c.mask_with.ensures ∙ ap (λ n. with_register n o.rc) c.empty.ensures.value))
