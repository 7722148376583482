use Rattle.std.proofs.Common.{refl}
use Rattle.std.proofs.lemmas.Result.{IfOk-weaker, IfErr-weaker}
use Rattle.alpha_io.specs.SinkChange.{sink_change}
use Rattle.alpha_seq.specs.Devices.{drawn}
use Rattle.alpha_imprecise.specs.Oracle.{oracle_of}
use Rattle.alpha_run.specs.Noted.{lines_of, stays, never}
use Rattle.alpha_run.specs.RunEffect.{watching}
use Rattle.alpha_run.proofs.ImpreciseRuns.{run-ImpreciseRanAs, IsPrefixRun-ImprecisePrefixRun}
use Rattle.alpha_run.proofs.RunsOfAccepted.{LosesNone-shows_of_accepted, ImpreciseRanAs-restarts}
use Rattle.alpha_run.proofs.imprecise_run.run_imprecise.Goals as goal

pub returns-clause-made : goal.returns-clause-made
returns-clause-made g c =
    IfOk-weaker c.run.result _ _
    (λ last did. run-ImpreciseRanAs last c.args.left.now c.run.new.left c.args.watch c.args.wild.now c.run.new.machine
    (record { watch = c.args.watch }) c.run.new.observer
    (oracle_of g.C.Chooser.ahead g.C.Chooser.drawn c.args.chooser.now)
    (oracle_of g.C.Chooser.ahead g.C.Chooser.drawn c.run.new.chooser)
    (drawn g.S.Source c.args.input.now c.run.new.input) (sink_change g.K.Sink c.args.out.now c.run.new.out)
    (sink_change g.N.Sink c.args.notes.now c.run.new.notes) refl did)
    c.run.ensures.made

pub returns-clause-broken : goal.returns-clause-broken
returns-clause-broken g c =
    IfErr-weaker c.run.result _ _
    (λ fault did.
    IsPrefixRun-ImprecisePrefixRun (watching stays lines_of never) fault c.args.left.now c.run.new.left c.args.watch
    c.args.wild.now c.run.new.machine (record { watch = c.args.watch })
    (oracle_of g.C.Chooser.ahead g.C.Chooser.drawn c.args.chooser.now)
    (oracle_of g.C.Chooser.ahead g.C.Chooser.drawn c.run.new.chooser)
    (drawn g.S.Source c.args.input.now c.run.new.input) (sink_change g.K.Sink c.args.out.now c.run.new.out)
    (sink_change g.N.Sink c.args.notes.now c.run.new.notes) (λ ps. refl) did)
    c.run.ensures.broken

pub returns-clause-found : goal.returns-clause-found
returns-clause-found g c = λ calm never.
    LosesNone-shows_of_accepted c.run.result c.args.left.now c.run.new.left c.args.watch c.args.wild.now
    c.run.new.machine
    (oracle_of g.C.Chooser.ahead g.C.Chooser.drawn c.args.chooser.now)
    (oracle_of g.C.Chooser.ahead g.C.Chooser.drawn c.run.new.chooser)
    (drawn g.S.Source c.args.input.now c.run.new.input) (sink_change g.K.Sink c.args.out.now c.run.new.out)
    (sink_change g.N.Sink c.args.notes.now c.run.new.notes)
    (returns-clause-made g c) calm never

pub returns-clause-restarted : goal.returns-clause-restarted
returns-clause-restarted g c = λ bytes tells fresh restarts.
    ImpreciseRanAs-restarts c.run.result c.args.left.now c.run.new.left c.args.watch c.args.wild.now c.run.new.machine
    (oracle_of g.C.Chooser.ahead g.C.Chooser.drawn c.args.chooser.now)
    (oracle_of g.C.Chooser.ahead g.C.Chooser.drawn c.run.new.chooser)
    (drawn g.S.Source c.args.input.now c.run.new.input) (sink_change g.K.Sink c.args.out.now c.run.new.out)
    (sink_change g.N.Sink c.args.notes.now c.run.new.notes)
    (returns-clause-made g c) (returns-clause-broken g c) bytes tells fresh restarts
