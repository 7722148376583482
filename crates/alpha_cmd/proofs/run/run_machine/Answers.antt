use Rattle.std.proofs.Common.{refl, inl}
use Rattle.alpha_io.specs.SinkChange.{sink_change}
use Rattle.alpha_seq.specs.Devices.{drawn}
use Rattle.alpha_run.proofs.ObservedSteps.{Feeds-LeavesEnd, Feeds-LeavesEnd_cut_short}
use Rattle.alpha_cmd.specs.Commands.Run.{on}
use Rattle.alpha_cmd.specs.Ran.{end_on}
use Rattle.alpha_cmd.proofs.RunEffects.{ran_shows, CommandEffect-run_made, AttemptPrefixes-cut_run}
use Rattle.alpha_cmd.proofs.EndStatuses.{HasEnded-not_cut_short}
use Rattle.alpha_cmd.proofs.RunsOnReplies.{ran_decides}
use Rattle.alpha_cmd.proofs.StreamedWrites.{does_cut}
use Rattle.alpha_cmd.proofs.EndsWhere.{cut_fails}
use Rattle.alpha_cmd.proofs.run.run_machine.Goals as goal

pub returns-in-Ok-clause-does : goal.returns-in-Ok-clause-does
returns-in-Ok-clause-does g c =
    let old = c.args.devices.now in
    let new = c.run_sequential.new in
    let ran = c.in-Ok.ensures.made in
    CommandEffect-run_made g.H.Shelf g.S.Source g.K.Sink g.N.Sink old new.input new.out new.notes c.args.options
    c.args.machine.now
    c.in-Ok.last c.after_run.result
    c.after_run.ensures
    (ran_shows c.args.options c.in-Ok.last new.left c.args.machine.now new.machine
    (drawn g.S.Source old.input new.input) (sink_change g.K.Sink old.out new.out)
    (sink_change g.N.Sink old.notes new.notes) (record { completion = c.requires.completion; state = c.requires.start })
    ran)
    ran.same (Feeds-LeavesEnd (drawn g.S.Source old.input new.input) ran.events ran.fed)

pub returns-in-Err-clause-does : goal.returns-in-Err-clause-does
returns-in-Err-clause-does g c =
    let old = c.args.devices.now in
    let new = c.run_sequential.new in
    let cut = c.in-Err.ensures.broken in
    does_cut g.H.Shelf g.S.Source g.K.Sink g.N.Sink old new.input new.out new.notes
    (on c.args.options c.args.machine.now.image) c.in-Err.fault c.of_device_fault.result refl
    (AttemptPrefixes-cut_run c.args.options c.args.machine.now _ c.in-Err.fault (drawn g.S.Source old.input new.input)
    (sink_change g.K.Sink old.out new.out) (sink_change g.N.Sink old.notes new.notes)
    (record { completion = c.requires.completion; state = c.requires.start }) cut refl)
    c.of_device_fault.ensures cut.cause
    (Feeds-LeavesEnd_cut_short (drawn g.S.Source old.input new.input) cut.left cut.events cut.fed cut.leaves_end)

pub returns-in-Ok-clause-ran : goal.returns-in-Ok-clause-ran
returns-in-Ok-clause-ran g c = λ ends.
    let old = c.args.devices.now in
    let new = c.run_sequential.new in
    ran_decides c.args.options c.args.machine.now c.in-Ok.last new.left new.machine
    (drawn g.S.Source old.input new.input) (sink_change g.K.Sink old.out new.out)
    (sink_change g.N.Sink old.notes new.notes) (record { completion = c.requires.completion; state = c.requires.start })
    c.in-Ok.ensures.made c.after_run.result c.after_run.ensures

pub returns-in-Err-clause-ran : goal.returns-in-Err-clause-ran
returns-in-Err-clause-ran g c =
    λ ends. absurd (HasEnded-not_cut_short c.in-Err.fault c.of_device_fault.result c.of_device_fault.ensures ends)

pub returns-in-Ok-clause-ends : goal.returns-in-Ok-clause-ends
returns-in-Ok-clause-ends g c =
    let old = c.args.devices.now in
    let new = c.run_sequential.new in
    let decided =
    ran_decides c.args.options c.args.machine.now c.in-Ok.last new.left new.machine
    (drawn g.S.Source old.input new.input) (sink_change g.K.Sink old.out new.out)
    (sink_change g.N.Sink old.notes new.notes) (record { completion = c.requires.completion; state = c.requires.start })
    c.in-Ok.ensures.made c.after_run.result c.after_run.ensures in
    inl (end_on decided.ran, decided.status_is)

pub returns-in-Err-clause-ends : goal.returns-in-Err-clause-ends
returns-in-Err-clause-ends g c = cut_fails _ c.in-Err.fault c.of_device_fault.result c.of_device_fault.ensures
