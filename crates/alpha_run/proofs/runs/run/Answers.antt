use Rattle.std.proofs.Common.{◌-◌}
use Rattle.alpha_io.specs.Supply.{supply}
use Rattle.alpha_seq.proofs.RunSteps.{step_times}
use Rattle.alpha_imprecise.specs.Oracle.{oracle_of}
use Rattle.alpha_run.specs.RunEffect.{watching}
use Rattle.alpha_run.proofs.StepRows.{ContinuesRun-run_fast, ContinuesRun-step, ContinuesRun-append, EndsRun-last}
use Rattle.alpha_run.proofs.StepRows.{ContinuesRun-IsPrefixRun}
use Rattle.alpha_run.proofs.StepRows.{left_after, if_err}
use Rattle.alpha_run.proofs.runs.run.Goals as goal

pub steps-init : goal.steps-init
steps-init g c = record {
  made =
      ContinuesRun-run_fast g.M.Steps.steps_to
      (watching g.O.Observer.after g.O.Observer.lines g.O.Observer.stops) c.args.left.now c.run_fast.new.left
      c.args.machine.now c.run_fast.new.machine c.args.observer.now c.run_fast.new.observer
      (oracle_of g.C.Chooser.ahead g.C.Chooser.drawn c.args.chooser.now)
      (supply g.S.Source c.args.input.now) (g.K.Sink.written c.args.out.now) (g.N.Sink.written c.args.notes.now)
      (g.S.Source.faults c.args.input.now) (g.K.Sink.faults c.args.out.now) (g.N.Sink.faults c.args.notes.now)
      c.run_fast.ensures.went;
  same = c.run_fast.ensures.same;
  ready = c.run_fast.ensures.ready;
}

pub returns-in_err-event-clause-broken : goal.returns-in_err-event-clause-broken
returns-in_err-event-clause-broken g c =
    if_err _ c.from_residual.result c.in_err-event.field-0.0 c.from_residual.ensures
    (ContinuesRun-IsPrefixRun c.in_err-event.field-0.0 g.M.Steps.steps_to g.M.Steps.uses g.M.Steps.leaves
    (watching g.O.Observer.after g.O.Observer.lines g.O.Observer.stops) c.args.left.now c.steps.left _
    c.args.machine.now c.steps.machine c.observed_step.new.machine c.args.observer.now c.steps.observer
    (oracle_of g.C.Chooser.ahead g.C.Chooser.drawn c.args.chooser.now)
    (oracle_of g.C.Chooser.ahead g.C.Chooser.drawn c.steps.chooser)
    (oracle_of g.C.Chooser.ahead g.C.Chooser.drawn c.observed_step.new.chooser)
    (step_times (supply g.S.Source) g.S.Source.faults c.args.input.now c.steps.input c.observed_step.new.input)
    (step_times g.K.Sink.written g.K.Sink.faults c.args.out.now c.steps.out c.observed_step.new.out)
    (step_times g.N.Sink.written g.N.Sink.faults c.args.notes.now c.steps.notes c.observed_step.new.notes)
    (left_after c.steps.left c.unit.result c.unit-in-steps.result
    (g.M.Steps.uses c.steps.machine) c.unit.ensures c.unit-in-steps.ensures c.steps-test.true)
    c.steps.invariant.made c.in_err-event.ensures.broken)

pub returns-then-last-clause-made : goal.returns-then-last-clause-made
returns-then-last-clause-made g c =
    EndsRun-last g.M.Steps.steps_to g.M.Steps.uses (watching g.O.Observer.after g.O.Observer.lines g.O.Observer.stops)
    c.args.left.now c.steps.left (c.steps.left - c.unit-in-steps.result) _ _ c.args.machine.now c.steps.machine
    c.observed_step.new.machine c.args.observer.now c.steps.observer c.observed_step.new.observer
    (oracle_of g.C.Chooser.ahead g.C.Chooser.drawn c.args.chooser.now)
    (oracle_of g.C.Chooser.ahead g.C.Chooser.drawn c.steps.chooser)
    (oracle_of g.C.Chooser.ahead g.C.Chooser.drawn c.observed_step.new.chooser)
    (step_times (supply g.S.Source) g.S.Source.faults c.args.input.now c.steps.input c.observed_step.new.input)
    (step_times g.K.Sink.written g.K.Sink.faults c.args.out.now c.steps.out c.observed_step.new.out)
    (step_times g.N.Sink.written g.N.Sink.faults c.args.notes.now c.steps.notes c.observed_step.new.notes)
    (left_after c.steps.left c.unit.result c.unit-in-steps.result
    (g.M.Steps.uses c.steps.machine) c.unit.ensures c.unit-in-steps.ensures c.steps-test.true)
    c.if-last.true c.steps.invariant.made c.in_ok-event.ensures.made

pub steps-preserved : goal.steps-preserved
steps-preserved g c =
    let w = watching g.O.Observer.after g.O.Observer.lines g.O.Observer.stops in
    let goes = g.M.Steps.steps_to in
    let left = c.steps.left - c.unit-in-steps.result in
    let step = ContinuesRun-step goes g.M.Steps.uses w c.steps.left left _ _ c.steps.machine c.observed_step.new.machine
    c.steps.observer c.observed_step.new.observer _ _ _ _ _
    (left_after c.steps.left c.unit.result c.unit-in-steps.result
    (g.M.Steps.uses c.steps.machine) c.unit.ensures c.unit-in-steps.ensures c.steps-test.true)
    c.if-last.false c.in_ok-event.ensures.made in
    let made = ContinuesRun-append goes w c.args.left.now c.steps.left left c.args.machine.now c.steps.machine
    c.observed_step.new.machine c.args.observer.now c.steps.observer c.observed_step.new.observer _ _ _
    (step_times (supply g.S.Source) g.S.Source.faults c.args.input.now c.steps.input c.observed_step.new.input)
    (step_times g.K.Sink.written g.K.Sink.faults c.args.out.now c.steps.out c.observed_step.new.out)
    (step_times g.N.Sink.written g.N.Sink.faults c.args.notes.now c.steps.notes c.observed_step.new.notes)
    c.steps.invariant.made step in
    let more = c.run_fast-in-steps in
    record {
      made =
          ContinuesRun-append goes w c.args.left.now left more.new.left c.args.machine.now c.observed_step.new.machine
          more.new.machine c.args.observer.now c.observed_step.new.observer more.new.observer _ _ _
          (step_times (supply g.S.Source) g.S.Source.faults c.args.input.now c.observed_step.new.input
          c.observed_step.new.input)
          (step_times g.K.Sink.written g.K.Sink.faults c.args.out.now c.observed_step.new.out c.observed_step.new.out)
          (step_times g.N.Sink.written g.N.Sink.faults c.args.notes.now c.observed_step.new.notes
          c.observed_step.new.notes)
          made
          (ContinuesRun-run_fast goes w left more.new.left c.observed_step.new.machine more.new.machine
          c.observed_step.new.observer more.new.observer _
          (supply g.S.Source c.observed_step.new.input) (g.K.Sink.written c.observed_step.new.out)
          (g.N.Sink.written c.observed_step.new.notes) (g.S.Source.faults c.observed_step.new.input)
          (g.K.Sink.faults c.observed_step.new.out) (g.N.Sink.faults c.observed_step.new.notes)
          more.ensures.went);
      same =
          g.met.M.Steps.stays_on c.args.machine.now c.observed_step.new.machine more.new.machine
          (g.met.M.Steps.stays_on c.args.machine.now c.steps.machine c.observed_step.new.machine c.steps.invariant.same
          c.in_ok-event.ensures.same) more.ensures.same;
      ready = more.ensures.ready;
    }
