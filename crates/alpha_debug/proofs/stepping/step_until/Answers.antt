use Rattle.std.proofs.Common.{Option, refl, sym, subst}
use Rattle.alpha_io.specs.SinkChange.{sink_change}
use Rattle.alpha_seq.specs.declared.end.End.{End}
use Rattle.alpha_debug.specs.OutputChange.{output_change}
use Rattle.alpha_debug.specs.Effects.{StepsUntil}
use Rattle.alpha_debug.proofs.DebuggerSteps.{RunsTo-StepsUntil, walked-kept, walked-quiet, StepUntilFails-cut}
use Rattle.alpha_debug.proofs.stepping.step_until.Goals as goal

pub returns-in-Ok-clause-ok : goal.returns-in-Ok-clause-ok
returns-in-Ok-clause-ok g c =
    let w = c.args.watcher.now in
    subst
    (λ (end : Option End). StepsUntil w.until w.points.items c.args.most end c.args.machine.now c.run-last.new.machine
    (output_change g.K.Sink c.args.out.now w.block c.run-last.new.notes c.run-last.new.observer.block))
    (sym c.end_by.ensures)
    (RunsTo-StepsUntil w c.run-last.new.observer c.args.most c.run-last.new.left c.args.machine.now
    c.run-last.new.machine _ _ _ _
    (sink_change g.K.Sink c.args.out.now c.run-last.new.notes) refl c.in-Ok.last c.in-Ok.ensures.made)

pub returns-in-Ok-clause-kept : goal.returns-in-Ok-clause-kept
returns-in-Ok-clause-kept g c =
    walked-kept c.args.watcher.now c.run-last.new.observer c.args.most
    c.run-last.new.left c.args.machine.now c.run-last.new.machine _ _ _ _
    (sink_change g.K.Sink c.args.out.now c.run-last.new.notes) refl c.in-Ok.last c.in-Ok.ensures.made

pub returns-in-Ok-clause-quiet : goal.returns-in-Ok-clause-quiet
returns-in-Ok-clause-quiet g c = λ quiet.
    walked-quiet c.args.watcher.now c.run-last.new.observer c.args.most
    c.run-last.new.left c.args.machine.now c.run-last.new.machine _ _ _ _
    (sink_change g.K.Sink c.args.out.now c.run-last.new.notes) refl c.in-Ok.last c.in-Ok.ensures.made quiet

pub returns-in-Err-clause-refused : goal.returns-in-Err-clause-refused
returns-in-Err-clause-refused g c =
    StepUntilFails-cut _ c.args.watcher.now c.run-last.new.observer.block c.args.most c.run-last.new.left
    c.args.machine.now
    c.run-last.new.machine _ _ _ _ (sink_change g.K.Sink c.args.out.now c.run-last.new.notes)
    refl refl refl refl refl c.in-Err.ensures.broken
