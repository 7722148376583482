use Rattle.std.proofs.lemmas.Result.{IfOk-weaker, IfErr-weaker}
use Rattle.alpha_io.specs.SinkChange.{sink_change}
use Rattle.alpha_seq.specs.Devices.{drawn}
use Rattle.alpha_imprecise.proofs.ChoicesMade.{precise-makes, precise-breaks}
use Rattle.alpha_imprecise.proofs.step.precise.Goals as goal

pub returns-clause-made : goal.returns-clause-made
returns-clause-made g c =
    IfOk-weaker c.step_by.result _ _
    (λ event made. precise-makes event c.args.machine.now c.step_by.new.self
    (drawn g.S.Source c.args.input.now c.step_by.new.input) (sink_change g.K.Sink c.args.out.now c.step_by.new.out)
    c.requires.exact made)
    c.step_by.ensures.made

pub returns-clause-broken : goal.returns-clause-broken
returns-clause-broken g c =
    IfErr-weaker c.step_by.result _ _
    (λ fault broken. precise-breaks fault c.args.machine.now c.step_by.new.self
    (drawn g.S.Source c.args.input.now c.step_by.new.input) (sink_change g.K.Sink c.args.out.now c.step_by.new.out)
    c.requires.exact broken)
    c.step_by.ensures.broken
