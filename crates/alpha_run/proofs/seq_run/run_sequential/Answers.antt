use Rattle.std.proofs.Common.{refl}
use Rattle.std.proofs.lemmas.Result.{IfOk-weaker, IfErr-weaker}
use Rattle.alpha_io.specs.SinkChange.{sink_change}
use Rattle.alpha_seq.specs.Devices.{drawn}
use Rattle.alpha_run.proofs.SeqRuns.{run-SeqRan, IsPrefixRun-SeqPrefixRun}
use Rattle.alpha_run.proofs.seq_run.run_sequential.Goals as goal

pub returns-clause-made : goal.returns-clause-made
returns-clause-made g c =
    IfOk-weaker c.run.result _ _
    (λ last did. run-SeqRan last c.args.left.now c.run.new.left c.args.watch c.args.machine.now c.run.new.machine
    (record { watch = c.args.watch }) c.run.new.observer _ _
    (drawn g.S.Source c.args.input.now c.run.new.input) (sink_change g.K.Sink c.args.out.now c.run.new.out)
    (sink_change g.N.Sink c.args.notes.now c.run.new.notes) refl did)
    c.run.ensures.made

pub returns-clause-broken : goal.returns-clause-broken
returns-clause-broken g c =
    IfErr-weaker c.run.result _ _
    (λ fault did.
    IsPrefixRun-SeqPrefixRun fault c.args.left.now c.run.new.left c.args.watch c.args.machine.now c.run.new.machine
    (record { watch = c.args.watch }) _ _
    (drawn g.S.Source c.args.input.now c.run.new.input) (sink_change g.K.Sink c.args.out.now c.run.new.out)
    (sink_change g.N.Sink c.args.notes.now c.run.new.notes) refl did)
    c.run.ensures.broken
