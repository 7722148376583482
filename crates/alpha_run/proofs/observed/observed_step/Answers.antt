use Rattle.std.proofs.Common.{sym, ◌∙◌}
use Rattle.std.proofs.lemmas.Bool.{or_parts}
use Rattle.alpha_io.specs.SinkChange.{sink_change}
use Rattle.alpha_seq.specs.Devices.{drawn}
use Rattle.alpha_seq.specs.StepLabel.{is_over}
use Rattle.alpha_imprecise.specs.Oracle.{oracle_of}
use Rattle.alpha_run.proofs.StepRows.{if_err}
use Rattle.alpha_run.proofs.ObservedSteps.{StepEffect-IsObservedStep, notes-Idles, FaultedStepEffect-FaultedStep}
use Rattle.alpha_run.proofs.observed.observed_step.Goals as goal

pub returns-in_err-event-clause-broken : goal.returns-in_err-event-clause-broken
returns-in_err-event-clause-broken g c =
    if_err _ c.from_residual.result c.in_err-event.field-0.0 c.from_residual.ensures
    (FaultedStepEffect-FaultedStep g.M.Steps.steps_to g.M.Steps.uses g.M.Steps.core g.M.Steps.leaves g.O.Observer.after
    g.O.Observer.lines
    g.O.Observer.stops _ c.args.machine.now c.step.new.self c.args.observer.now
    (oracle_of g.C.Chooser.ahead g.C.Chooser.drawn c.args.chooser.now)
    (oracle_of g.C.Chooser.ahead g.C.Chooser.drawn c.step.new.chooser)
    (drawn g.S.Source c.args.input.now c.step.new.input) (sink_change g.K.Sink c.args.out.now c.step.new.out)
    (g.N.Sink.written c.args.notes.now) (g.N.Sink.faults c.args.notes.now) c.in_err-event.ensures.broken)

pub returns-in-Ok-clause-made : goal.returns-in-Ok-clause-made
returns-in-Ok-clause-made g c =
    StepEffect-IsObservedStep g.M.Steps.steps_to g.M.Steps.uses g.M.Steps.core g.O.Observer.after g.O.Observer.lines
    g.O.Observer.stops
    c.in_ok-event.event c.in-Ok.stop c.is_last-last.result c.args.machine.now c.step.new.self c.machine.result.now
    c.args.observer.now c.see.new.self
    (oracle_of g.C.Chooser.ahead g.C.Chooser.drawn c.args.chooser.now)
    (oracle_of g.C.Chooser.ahead g.C.Chooser.drawn c.step.new.chooser)
    (drawn g.S.Source c.args.input.now c.step.new.input) (sink_change g.K.Sink c.args.out.now c.step.new.out)
    (sink_change g.N.Sink c.args.notes.now c.see.new.notes)
    c.in_ok-event.ensures.made c.machine.ensures c.in-Ok.ensures.after c.in-Ok.ensures.lines c.in-Ok.ensures.stops
    c.is_last-last.ensures

pub returns-in-Err-clause-broken : goal.returns-in-Err-clause-broken
returns-in-Err-clause-broken g c =
    notes-Idles g.M.Steps.steps_to g.M.Steps.uses g.M.Steps.core g.M.Steps.leaves g.O.Observer.after g.O.Observer.lines
    g.O.Observer.stops c.in_ok-event.event c.args.machine.now c.step.new.self c.machine.result.now c.args.observer.now
    (oracle_of g.C.Chooser.ahead g.C.Chooser.drawn c.args.chooser.now)
    (oracle_of g.C.Chooser.ahead g.C.Chooser.drawn c.step.new.chooser)
    (drawn g.S.Source c.args.input.now c.step.new.input) (sink_change g.K.Sink c.args.out.now c.step.new.out)
    (sink_change g.N.Sink c.args.notes.now c.see.new.notes)
    c.in_ok-event.ensures.made c.machine.ensures c.in-Err.ensures.part c.in-Err.ensures.cause

pub returns-in-Ok-clause-nearer : goal.returns-in-Ok-clause-nearer
returns-in-Ok-clause-nearer g c = λ on.
    c.in_ok-event.ensures.nearer
    (or_parts c.in-Ok.stop (is_over c.in_ok-event.event) (sym c.is_last-last.ensures ∙ on)).1
