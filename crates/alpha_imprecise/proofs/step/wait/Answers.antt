use Rattle.std.specs.Prelude.{◌&&◌}
use Rattle.std.proofs.Common.{◌≡◌, ◌+◌, Bool, Option, Some, refl, sym, ap, subst, ◌∙◌}
use Rattle.alpha_table.specs.ClassOf.{class_of}
use Rattle.alpha_seq.specs.declared.event.Event.TheVariants as events
use Rattle.alpha_imprecise.specs.declared.pending.Pending.{Pending}
use Rattle.alpha_imprecise.specs.StepResult.{Waited}
use Rattle.alpha_imprecise.specs.Step.{adds_here}
use Rattle.alpha_imprecise.specs.ImpreciseState.{mask_after, imprecise_state}
use Rattle.alpha_imprecise.specs.ChoiceSource.{choice_by}
use Rattle.alpha_imprecise.specs.ImpreciseStepEffect.{StepsAs}
use Rattle.alpha_imprecise.proofs.ChoicesMade.{wait-steps}
use Rattle.alpha_imprecise.proofs.step.wait.Goals.{then-choice, else-choice}
use Rattle.alpha_imprecise.proofs.step.wait.Goals as goal

pub returns-clause-step : goal.returns-clause-step
returns-clause-step c =
    let m = c.args.machine.now in
    let choice = c.args.choice.now in
    let trap = c.args.trap.now in
    let class = class_of c.args.insn.now in
    let adds : c.if-choice.adds ≡ (choice.adds && adds_here (Some class)) = elim c.if-choice.branch [
      | then-choice w ↦ w.adds-is
          ∙ (w.adds_here-adds.ensures ∙ ap (λ (b : Bool). b && adds_here (Some class)) (sym w.if-choice.true))
      | else-choice w ↦ w.adds-is
          ∙ (w.if-choice.false ∙ ap (λ (b : Bool). b && adds_here (Some class)) (sym w.if-choice.false))
    ] in
    let left : Option Pending =
    Some (record { trigger = trap.trigger; mask = c.mask_after.result; waited = trap.waited + 1 }) in
    subst (λ (p : Option Pending). StepsAs (events.Waited (record { adds = c.if-choice.adds; value = choice.value }))
    (imprecise_state m p) (imprecise_state c.execute_unpredictable.new.machine left) (choice_by (Some choice)))
    (sym c.requires.trap)
    (record {
      last_event = Waited (choice.adds && adds_here (Some class)) choice.value choice.value;
      event_is = ap (λ (b : Bool). events.Waited (record { adds = b; value = choice.value })) adds;
      still = tt;
      steps =
          wait-steps m c.execute_unpredictable.new.machine trap class choice c.mask_after.result
          (trap.waited + 1) c.requires.waits c.execute_unpredictable.ensures
          (c.mask_after.ensures ∙ ap (mask_after (Some class) trap.mask) adds) refl;
    })
