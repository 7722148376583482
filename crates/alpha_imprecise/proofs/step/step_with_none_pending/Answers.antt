use Rattle.std.proofs.Common.{None, false, refl, sym, ◌∙◌}
use Rattle.std.proofs.lemmas.Result.{IfOk-weaker, IfErr-weaker}
use Rattle.alpha_io.specs.Supply.{supply}
use Rattle.alpha_io.specs.SinkChange.{sink_change}
use Rattle.alpha_seq.specs.declared.event.Event.TheVariants as events
use Rattle.alpha_seq.specs.StepEffect.{StepEffect, FaultedStepEffect}
use Rattle.alpha_seq.specs.Sequential.{no_words}
use Rattle.alpha_seq.specs.Devices.{drawn}
use Rattle.alpha_imprecise.specs.StepResult.{Triggered}
use Rattle.alpha_imprecise.specs.Chosen.{triggering}
use Rattle.alpha_imprecise.specs.ImpreciseState.{imprecise_state}
use Rattle.alpha_imprecise.specs.ImpreciseStepEffect.{ImpreciseStepBy, imprecise_units, imprecise_core}
use Rattle.alpha_imprecise.specs.ImpreciseStepEffect.{ImpreciseStateAfterFault}
use Rattle.alpha_imprecise.proofs.ChoiceRequests.{exact-chose, value-chose}
use Rattle.alpha_imprecise.proofs.RunConcatenation.{unused_device, idle_sink, steps_alone-join}
use Rattle.alpha_imprecise.proofs.NextInsns.{triggers-here}
use Rattle.alpha_imprecise.proofs.step.step_with_none_pending.Goals as goal

pub precise-requires-clause-exact : goal.precise-requires-clause-exact
precise-requires-clause-exact g c =
    triggers-here c.args.machine.now None false (sym c.in_default.is ∙ c.insn.ensures) refl

pub returns-in_default-clause-made : goal.returns-in_default-clause-made
returns-in_default-clause-made g c =
    let m = c.args.machine.now in
    let input = drawn g.S.Source c.args.input.now c.precise.new.input in
    let out = sink_change g.K.Sink c.args.out.now c.precise.new.out in
    IfOk-weaker c.precise.result _ _
    (λ event made.
    exact-chose g.P.ChoiceSource.gives_pick g.P.ChoiceSource.values m c.args.pending.now c.args.choices.now
    (λ p choice. StepEffect (ImpreciseStepBy choice) imprecise_units imprecise_core no_words event (imprecise_state m p)
    (imprecise_state c.precise.new.machine p) input out)
    c.requires.none (triggers-here m None false (sym c.in_default.is ∙ c.insn.ensures) refl) made)
    c.precise.ensures.made

pub returns-in_default-clause-broken : goal.returns-in_default-clause-broken
returns-in_default-clause-broken g c =
    let m = c.args.machine.now in
    let input = drawn g.S.Source c.args.input.now c.precise.new.input in
    let out = sink_change g.K.Sink c.args.out.now c.precise.new.out in
    IfErr-weaker c.precise.result _ _
    (λ fault broken.
    exact-chose g.P.ChoiceSource.gives_pick g.P.ChoiceSource.values m c.args.pending.now c.args.choices.now
    (λ p choice. FaultedStepEffect (ImpreciseStepBy choice) imprecise_units imprecise_core ImpreciseStateAfterFault
    no_words fault (imprecise_state m p) (imprecise_state c.precise.new.machine p) input out)
    c.requires.none (triggers-here m None false (sym c.in_default.is ∙ c.insn.ensures) refl) broken)
    c.precise.ensures.broken

pub returns-in-Some-overflow_of-clause-made : goal.returns-in-Some-overflow_of-clause-made
returns-in-Some-overflow_of-clause-made g c =
    let m = c.args.machine.now in
    let value = c.value-value.result in
    let old = imprecise_state m c.args.pending.now in
    let new = imprecise_state c.trigger.new.machine c.trigger.new.pending in
    let left = supply g.S.Source c.args.input.now in
    let written = g.K.Sink.written c.args.out.now in
    let faults = g.S.Source.faults c.args.input.now in
    let count = g.K.Sink.faults c.args.out.now in
    value-chose g.P.ChoiceSource.gives_pick g.P.ChoiceSource.values m c.args.pending.now value c.args.choices.now
    c.value-value.new.self
    (λ choice. StepEffect (ImpreciseStepBy choice) imprecise_units imprecise_core no_words
    (events.Triggered value) old new (unused_device left faults) (idle_sink written count))
    c.requires.none c.in-Some-overflow_of.ensures.found.overflows c.value-value.ensures
    (steps_alone-join (events.Triggered value) old new (triggering value).choice left written faults count
    (record { last_event = Triggered value; event_is = refl; still = tt; steps = c.trigger.ensures.step }))
