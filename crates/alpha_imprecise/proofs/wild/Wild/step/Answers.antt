use Rattle.std.proofs.lemmas.Result.{IfOk-weaker, IfErr-weaker}
use Rattle.alpha_io.specs.SinkChange.{sink_change}
use Rattle.alpha_seq.specs.Devices.{drawn}
use Rattle.alpha_imprecise.specs.Oracle.{oracle_of}
use Rattle.alpha_imprecise.proofs.StepsByWords.{ImpreciseStepMade-words, ImpreciseStepFaulted-words}
use Rattle.alpha_imprecise.proofs.ShorterRuns.{waits_left-falls}
use Rattle.alpha_imprecise.proofs.wild.Wild.step.Goals as goal

pub returns-clause-made : goal.returns-clause-made
returns-clause-made g c =
    IfOk-weaker c.step_by.result _ _
    (λ event made. ImpreciseStepMade-words g.C.Chooser.ahead g.C.Chooser.drawn event c.args.self.now c.step_by.new.self
    c.args.chooser.now c.step_by.new.choices
    (drawn g.S.Source c.args.input.now c.step_by.new.input) (sink_change g.K.Sink c.args.out.now c.step_by.new.out)
    made)
    c.step_by.ensures.made

pub returns-clause-nearer : goal.returns-clause-nearer
returns-clause-nearer g c =
    IfOk-weaker c.step_by.result _ _
    (λ event made. waits_left-falls event c.args.self.now c.step_by.new.self
    (oracle_of g.C.Chooser.ahead g.C.Chooser.drawn c.args.chooser.now)
    (oracle_of g.C.Chooser.ahead g.C.Chooser.drawn c.step_by.new.choices)
    (drawn g.S.Source c.args.input.now c.step_by.new.input) (sink_change g.K.Sink c.args.out.now c.step_by.new.out)
    made)
    (returns-clause-made g c)

pub returns-clause-broken : goal.returns-clause-broken
returns-clause-broken g c =
    IfErr-weaker c.step_by.result _ _
    (λ fault broken.
    ImpreciseStepFaulted-words g.C.Chooser.ahead g.C.Chooser.drawn fault c.args.self.now c.step_by.new.self
    c.args.chooser.now c.step_by.new.choices
    (drawn g.S.Source c.args.input.now c.step_by.new.input) (sink_change g.K.Sink c.args.out.now c.step_by.new.out)
    broken)
    c.step_by.ensures.broken
