use Rattle.std.proofs.Common.{◌+◌, ◌*◌}
use Rattle.alpha_io.specs.SinkChange.{sink_change}
use Rattle.alpha_seq.specs.Devices.{drawn}
use Rattle.alpha_imprecise.specs.Oracle.{oracle_of}
use Rattle.alpha_run.specs.RunEffect.{watching, ContinuesRun}
use Rattle.alpha_run.proofs.runs.run.Given as goal

abbrev pub invariant-steps : goal.invariant-steps
invariant-steps g l = record {
  made : ContinuesRun g.M.Steps.steps_to (watching g.O.Observer.after g.O.Observer.lines g.O.Observer.stops) l.fn.left
      l.left l.fn.machine l.machine l.fn.observer l.observer
      (oracle_of g.C.Chooser.ahead g.C.Chooser.drawn l.fn.chooser)
      (oracle_of g.C.Chooser.ahead g.C.Chooser.drawn l.chooser)
      (drawn g.S.Source l.fn.input l.input)
      (sink_change g.K.Sink l.fn.out l.out)
      (sink_change g.N.Sink l.fn.notes l.notes);
  same : g.M.Steps.stays l.fn.machine l.machine;
  ready : g.M.Steps.ready l.machine;
}

abbrev pub decreases-steps : goal.decreases-steps
decreases-steps g l = l.left * 1026 + g.M.Steps.waits l.machine
