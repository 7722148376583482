use Rattle.std.proofs.lemmas.Result.{IfOk-weaker, IfErr-weaker}
use Rattle.alpha_io.specs.SinkChange.{sink_change}
use Rattle.alpha_seq.specs.Devices.{drawn}
use Rattle.alpha_imprecise.specs.Oracle.{oracle_of}
use Rattle.alpha_run.proofs.ObservedSteps.{oracle_StepMade, oracle_FaultedStep, near_made}
use Rattle.alpha_run.proofs.by_rows.RowMachineSteps.step.Goals as goal

pub returns-clause-made : goal.returns-clause-made
returns-clause-made g c =
    IfOk-weaker c.step.result _ _
    (λ event made. oracle_StepMade event c.args.self.now c.step.new.self
    (oracle_of g.C.Chooser.ahead g.C.Chooser.drawn c.args._chooser.now)
    (drawn g.S.Source c.args.input.now c.step.new.input) (sink_change g.K.Sink c.args.out.now c.step.new.out)
    made)
    c.step.ensures.made

pub returns-clause-nearer : goal.returns-clause-nearer
returns-clause-nearer g c = near_made c.step.result c.args.self.now c.step.new.self

pub returns-clause-broken : goal.returns-clause-broken
returns-clause-broken g c =
    IfErr-weaker c.step.result _ _
    (λ fault broken. oracle_FaultedStep fault c.args.self.now c.step.new.self
    (oracle_of g.C.Chooser.ahead g.C.Chooser.drawn c.args._chooser.now)
    (drawn g.S.Source c.args.input.now c.step.new.input) (sink_change g.K.Sink c.args.out.now c.step.new.out)
    broken)
    c.step.ensures.broken
