use Rattle.std.proofs.Common.{[], sym, append-nil}
use Rattle.alpha_io.specs.SinkChange.{sink_change}
use Rattle.alpha_seq.specs.Devices.{drawn as drawn_in}
use Rattle.alpha_request.specs.Options.{origin_of}
use Rattle.alpha_cmd.specs.RunsAsked.{DecidesPlan}
use Rattle.alpha_cmd.specs.Commands.Imprecise.{Planned, RunsImprecise, kind, plan_in}
use Rattle.alpha_cmd.specs.Form.{needs_files_and_input}
use Rattle.alpha_cmd.proofs.EffectsAfterRead.{does_after, does_stop}
use Rattle.alpha_cmd.proofs.Commands.Imprecise.{planned_good, planned_plain}
use Rattle.alpha_cmd.proofs.EndStatuses.{HasEnded-not_stopped}
use Rattle.alpha_cmd.proofs.RunsOnReplies.{IfOk-ReadsPlan}
use Rattle.alpha_cmd.proofs.EndsWhere.{SaysStop-memory_FailsOnTheWay}
use Rattle.alpha_cmd.proofs.imprecise.imprecise.Goals as goal

pub returns-in-Ok-clause-does : goal.returns-in-Ok-clause-does
returns-in-Ok-clause-does g c =
    let a = c.args.asked in
    let drawn = origin_of a.choices in
    let plan = plan_in c.in-Ok.begun in
    let is = c.in-Ok.ensures.stage in
    does_after g.H.Shelf g.S.Source g.K.Sink g.N.Sink c.args.devices.now c.prepare.new.shelf
    c.run_from_start.new.devices
    (Planned drawn a.force a.file.now)
    (λ w. RunsImprecise a.options a.force w.input) needs_files_and_input (kind a.force) plan c.run_from_start.result _
    (λ e. cc) is.ok is.shelf
    (c.run_from_start.ensures.does a.force
    (planned_good a.force drawn a.file.now (g.H.Shelf.files c.args.devices.now.shelf) plan is.ok))

pub returns-in-Err-clause-does : goal.returns-in-Err-clause-does
returns-in-Err-clause-does g c =
    let a = c.args.asked in
    does_stop g.H.Shelf g.S.Source g.K.Sink g.N.Sink c.args.devices.now c.prepare.new.shelf
    (Planned (origin_of a.choices) a.force a.file.now)
    (λ w. RunsImprecise a.options a.force w.input) needs_files_and_input
    (kind a.force) c.of_stop.result c.in-Err.stop c.of_stop.ensures c.in-Err.ensures.stage

pub returns-in-Ok-clause-ran : goal.returns-in-Ok-clause-ran
returns-in-Ok-clause-ran g c = λ ends.
    let a = c.args.asked in
    let old = c.args.devices.now in
    let new = c.run_from_start.new.devices in
    let plan = plan_in c.in-Ok.begun in
    let planned = c.in-Ok.ensures.stage.ok in
    let may = planned_good a.force (origin_of a.choices) a.file.now (g.H.Shelf.files old.shelf) plan planned in
    IfOk-ReadsPlan g.H.Shelf old.shelf c.prepare.new.shelf new.shelf a.file.now
    (origin_of a.choices) a.force plan c.run_from_start.result
    (λ p decision. DecidesPlan a.options a.force p decision (drawn_in g.S.Source old.input new.input)
    (sink_change g.K.Sink old.out new.out) (sink_change g.N.Sink old.notes new.notes))
    c.in-Ok.ensures.read planned c.run_from_start.ensures.shelf (c.run_from_start.ensures.ran a.force may ends)

pub returns-in-Err-clause-ran : goal.returns-in-Err-clause-ran
returns-in-Err-clause-ran g c = λ ends.
    let a = c.args.asked in
    let files = g.H.Shelf.files c.args.devices.now.shelf in
    absurd (HasEnded-not_stopped (Planned (origin_of a.choices) a.force a.file.now files) _
    (planned_plain (origin_of a.choices) a.force a.file.now files) c.in-Err.stop c.of_stop.result
    c.of_stop.ensures c.in-Err.ensures.stage.refused ends)

pub returns-in-Ok-clause-ends : goal.returns-in-Ok-clause-ends
returns-in-Ok-clause-ends g c = λ plan accepted read.
    let a = c.args.asked in
    c.run_from_start.ensures.ends a.force (planned_good a.force (origin_of a.choices) a.file.now
    (g.H.Shelf.files c.args.devices.now.shelf) (plan_in c.in-Ok.begun) c.in-Ok.ensures.stage.ok)

pub returns-in-Err-clause-ends : goal.returns-in-Err-clause-ends
returns-in-Err-clause-ends g c = λ plan accepted read.
    let new = g.H.Shelf.replies c.prepare.new.shelf in
    SaysStop-memory_FailsOnTheWay _ c.in-Err.stop c.of_stop.result c.of_stop.ensures
    (c.in-Err.ensures.first plan new [] accepted read (sym (append-nil new)))
