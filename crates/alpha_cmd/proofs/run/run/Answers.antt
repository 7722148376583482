use Rattle.alpha_io.specs.SinkChange.{sink_change}
use Rattle.alpha_seq.specs.Devices.{drawn}
use Rattle.alpha_cmd.specs.RunsAsked.{DecidesRun}
use Rattle.alpha_cmd.specs.Image.{ImageOf}
use Rattle.alpha_cmd.specs.Commands.Run.{Runs, kind}
use Rattle.alpha_cmd.specs.Form.{needs_files_and_input}
use Rattle.alpha_cmd.proofs.EffectsAfterRead.{does_after, does_stop}
use Rattle.alpha_cmd.proofs.EndStatuses.{HasEnded-not_stopped}
use Rattle.alpha_cmd.proofs.RunsOnReplies.{IfOk-ReadsImage}
use Rattle.alpha_cmd.proofs.StageLaws.{image_plain}
use Rattle.alpha_cmd.proofs.EndsWhere.{SaysStop-memory_FailsOnTheWay}
use Rattle.alpha_cmd.proofs.run.run.Goals as goal

pub returns-in-Ok-clause-does : goal.returns-in-Ok-clause-does
returns-in-Ok-clause-does g c =
    does_after g.H.Shelf g.S.Source g.K.Sink g.N.Sink c.args.devices.now c.load.new.shelf c.run_image.new.devices
    (λ files. ImageOf files c.args.file.now)
    (λ w. Runs c.args.options w.input) needs_files_and_input kind c.in-Ok.image c.run_image.result _
    (λ e. cc) c.in-Ok.ensures.stage.ok c.in-Ok.ensures.stage.shelf
    c.run_image.ensures.does

pub returns-in-Err-clause-does : goal.returns-in-Err-clause-does
returns-in-Err-clause-does g c =
    does_stop g.H.Shelf g.S.Source g.K.Sink g.N.Sink c.args.devices.now c.load.new.shelf
    (λ files. ImageOf files c.args.file.now) (λ w. Runs c.args.options w.input)
    needs_files_and_input kind c.of_stop.result c.in-Err.stop c.of_stop.ensures c.in-Err.ensures.stage

pub returns-in-Ok-clause-ran : goal.returns-in-Ok-clause-ran
returns-in-Ok-clause-ran g c = λ ends.
    let old = c.args.devices.now in
    let new = c.run_image.new.devices in
    IfOk-ReadsImage g.H.Shelf old.shelf c.load.new.shelf new.shelf c.args.file.now c.in-Ok.image c.run_image.result
    (λ image decision. DecidesRun c.args.options image decision (drawn g.S.Source old.input new.input)
    (sink_change g.K.Sink old.out new.out) (sink_change g.N.Sink old.notes new.notes))
    c.in-Ok.ensures.read c.in-Ok.ensures.stage.ok c.run_image.ensures.shelf (c.run_image.ensures.ran ends)

pub returns-in-Err-clause-ran : goal.returns-in-Err-clause-ran
returns-in-Err-clause-ran g c = λ ends.
    let files = g.H.Shelf.files c.args.devices.now.shelf in
    absurd (HasEnded-not_stopped (ImageOf files c.args.file.now) _
    (image_plain files c.args.file.now) c.in-Err.stop c.of_stop.result c.of_stop.ensures
    c.in-Err.ensures.stage.refused ends)

pub returns-in-Ok-clause-ends : goal.returns-in-Ok-clause-ends
returns-in-Ok-clause-ends g c = λ image good has read. c.run_image.ensures.ends

pub returns-in-Err-clause-ends : goal.returns-in-Err-clause-ends
returns-in-Err-clause-ends g c = λ image good has read.
    SaysStop-memory_FailsOnTheWay _ c.in-Err.stop c.of_stop.result c.of_stop.ensures
    (c.in-Err.ensures.whole image good read)
