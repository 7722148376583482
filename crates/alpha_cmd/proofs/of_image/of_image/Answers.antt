use Rattle.std.proofs.Common.{refl, subst, inl}
use Rattle.alpha_image.specs.Parts.{Parts, image_spelling}
use Rattle.alpha_io.specs.Files.{HasFile}
use Rattle.alpha_io.specs.History.{IsReadWhole}
use Rattle.alpha_io.specs.SinkChange.{sink_change}
use Rattle.alpha_seq.specs.Devices.{drawn}
use Rattle.alpha_cmd.specs.Image.{ImageOf}
use Rattle.alpha_cmd.specs.Form.{needs_by}
use Rattle.alpha_cmd.specs.OfImage.{Answers, kind}
use Rattle.alpha_cmd.specs.Ends.{status_in}
use Rattle.alpha_cmd.specs.RunsAsked.{DecidesOf, EndsOf}
use Rattle.alpha_cmd.proofs.EffectsAfterRead.{does_after, does_stop}
use Rattle.alpha_cmd.proofs.EndsWhere.{EndsOf-fails_always, memory_said, same_image_read}
use Rattle.alpha_cmd.proofs.EndStatuses.{HasEnded-not_stopped}
use Rattle.alpha_cmd.proofs.RunsOnReplies.{IfOk-ReadsImage}
use Rattle.alpha_cmd.proofs.StageLaws.{SaysStop-not_done, image_plain}
use Rattle.alpha_cmd.proofs.InputLeft.{untouched_input}
use Rattle.alpha_cmd.proofs.of_image.of_image.Goals as goal

pub returns-in-Ok-clause-does : goal.returns-in-Ok-clause-does
returns-in-Ok-clause-does g c =
    does_after g.H.Shelf g.S.Source g.K.Sink g.N.Sink c.args.devices.now c.load.new.shelf c.on_image.new.devices
    (λ files. ImageOf files c.args.file.now)
    (λ w. Answers c.args.command w.input) (needs_by (kind c.args.command)) (kind c.args.command) c.in-Ok.image
    c.on_image.result _ (λ e. cc) c.in-Ok.ensures.stage.ok c.in-Ok.ensures.stage.shelf
    c.on_image.ensures.does

pub returns-in-Err-clause-does : goal.returns-in-Err-clause-does
returns-in-Err-clause-does g c =
    does_stop g.H.Shelf g.S.Source g.K.Sink g.N.Sink c.args.devices.now c.load.new.shelf
    (λ files. ImageOf files c.args.file.now) (λ w. Answers c.args.command w.input)
    (needs_by (kind c.args.command)) (kind c.args.command) c.of_stop.result c.in-Err.stop c.of_stop.ensures
    c.in-Err.ensures.stage

pub returns-in-Err-clause-script : goal.returns-in-Err-clause-script
returns-in-Err-clause-script g c =
    λ is. untouched_input (drawn g.S.Source c.args.devices.now.input c.args.devices.now.input) refl

pub returns-in-Ok-clause-checked : goal.returns-in-Ok-clause-checked
returns-in-Ok-clause-checked g c = λ is done.
    let (bytes, there, spelt) = c.in-Ok.ensures.stage.ok in
    record {
      image = c.in-Ok.image;
      good = c.in-Ok.ensures.read.0;
      read = rw c.on_image.ensures.shelf c.in-Ok.ensures.read.1;
      told = subst (HasFile (g.H.Shelf.files c.args.devices.now.shelf) c.args.file.now) spelt.1 there.0;
      has = c.on_image.ensures.accepted is done;
    }

pub returns-in-Err-clause-checked : goal.returns-in-Err-clause-checked
returns-in-Err-clause-checked g c = λ is done.
    let files = g.H.Shelf.files c.args.devices.now.shelf in
    absurd (SaysStop-not_done (ImageOf files c.args.file.now) _
    (image_plain files c.args.file.now) c.in-Err.stop c.of_stop.result c.of_stop.ensures
    c.in-Err.ensures.stage.refused done)

pub returns-in-Ok-clause-ran : goal.returns-in-Ok-clause-ran
returns-in-Ok-clause-ran g c = λ ends.
    let old = c.args.devices.now in
    let new = c.on_image.new.devices in
    IfOk-ReadsImage g.H.Shelf old.shelf c.load.new.shelf new.shelf c.args.file.now c.in-Ok.image c.on_image.result
    (λ image decision. DecidesOf c.args.command image decision (drawn g.S.Source old.input new.input)
    (sink_change g.K.Sink old.out new.out) (sink_change g.N.Sink old.notes new.notes))
    c.in-Ok.ensures.read c.in-Ok.ensures.stage.ok c.on_image.ensures.shelf (c.on_image.ensures.ran ends)

pub returns-in-Err-clause-ran : goal.returns-in-Err-clause-ran
returns-in-Err-clause-ran g c = λ ends.
    let files = g.H.Shelf.files c.args.devices.now.shelf in
    absurd (HasEnded-not_stopped (ImageOf files c.args.file.now) _
    (image_plain files c.args.file.now) c.in-Err.stop c.of_stop.result c.of_stop.ensures
    c.in-Err.ensures.stage.refused ends)

pub returns-in-Ok-clause-ends : goal.returns-in-Ok-clause-ends
returns-in-Ok-clause-ends g c = λ image good read.
    let old = g.H.Shelf.replies c.args.devices.now.shelf in
    let new = g.H.Shelf.replies c.on_image.new.devices.shelf in
    let found : IsReadWhole old new c.args.file.now (image_spelling c.in-Ok.image) =
    rw c.on_image.ensures.shelf c.in-Ok.ensures.read.1 in
    subst (λ (i : Parts). EndsOf c.args.command i (status_in c.on_image.result))
    (same_image_read old new c.args.file.now c.in-Ok.image image (c.in-Ok.ensures.read.0, found) good read)
    c.on_image.ensures.ends

pub returns-in-Err-clause-ends : goal.returns-in-Err-clause-ends
returns-in-Err-clause-ends g c = λ image good read.
    EndsOf-fails_always c.args.command image c.of_stop.result.status
    (inl (memory_said c.in-Err.stop c.of_stop.result c.of_stop.ensures (c.in-Err.ensures.whole image good read)))
