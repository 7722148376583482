use Rattle.std.proofs.Common.{◌≡◌, ◌∙◌, sym, ap}
use Rattle.alpha_io.specs.ShelfChange.{shelf_change}
use Rattle.alpha_request.specs.Command.{of_image, debug}
use Rattle.alpha_request.specs.CommandOf.{command_of}
use Rattle.alpha_cmd.proofs.OfImage.{of_image_replied}
use Rattle.alpha_cmd.proofs.RunsOnReplies.{WhereEnded-other_command}
use Rattle.alpha_cmd.proofs.top.perform.Goals as goal

pub returns-in-OfImage-clause-script : goal.returns-in-OfImage-clause-script
returns-in-OfImage-clause-script g c = λ file is.
    c.of_image.ensures.script (let e : of_image c.in-OfImage.command c.in-OfImage.file.now ≡ debug file =
    sym (ap command_of c.in-OfImage.is) ∙ is in cc)

pub returns-in-OfImage-clause-replied : goal.returns-in-OfImage-clause-replied
returns-in-OfImage-clause-replied g c = λ done.
    rw c.in-OfImage.is
    (of_image_replied c.in-OfImage.command c.in-OfImage.file.now
    (shelf_change g.H.Shelf c.args.devices.now.shelf c.of_image.new.devices.shelf)
    (λ is. c.of_image.ensures.checked is done))

pub returns-in-Make-clause-replied : goal.returns-in-Make-clause-replied
returns-in-Make-clause-replied g c = λ done. rw c.in-Make.is (c.make.ensures.kept done)

pub returns-in-Link-clause-replied : goal.returns-in-Link-clause-replied
returns-in-Link-clause-replied g c = λ done. rw c.in-Link.is (rw c.as_slice.ensures.names at (c.link.ensures.kept done))

pub returns-in-Link-clause-does : goal.returns-in-Link-clause-does
returns-in-Link-clause-does g c = rw c.in-Link.is (rw c.as_slice.ensures.names at c.link.ensures.does)

pub trial-requires-clause-some : goal.trial-requires-clause-some
trial-requires-clause-some g c = (c.requires.blocks c.in-Trial.blocks (ap command_of c.in-Trial.is)).0

pub trial-requires-clause-bound : goal.trial-requires-clause-bound
trial-requires-clause-bound g c = (c.requires.blocks c.in-Trial.blocks (ap command_of c.in-Trial.is)).1

pub returns-in-Run-clause-ran : goal.returns-in-Run-clause-ran
returns-in-Run-clause-ran g c = rw c.in-Run.is c.run.ensures.ran

pub returns-in-RunImprecise-clause-ran : goal.returns-in-RunImprecise-clause-ran
returns-in-RunImprecise-clause-ran g c = rw c.in-RunImprecise.is c.imprecise.ensures.ran

pub returns-in-OfImage-clause-ran : goal.returns-in-OfImage-clause-ran
returns-in-OfImage-clause-ran g c = rw c.in-OfImage.is c.of_image.ensures.ran

pub returns-in-Make-clause-ran : goal.returns-in-Make-clause-ran
returns-in-Make-clause-ran g c = rw c.in-Make.is (WhereEnded-other_command c.make.result)

pub returns-in-Link-clause-ran : goal.returns-in-Link-clause-ran
returns-in-Link-clause-ran g c = rw c.in-Link.is (WhereEnded-other_command c.link.result)

pub returns-in-Replay-clause-ran : goal.returns-in-Replay-clause-ran
returns-in-Replay-clause-ran g c = rw c.in-Replay.is c.replay.ensures.ran

pub returns-in-Record-clause-ran : goal.returns-in-Record-clause-ran
returns-in-Record-clause-ran g c = rw c.in-Record.is c.record.ensures.ran

pub returns-in-Trial-clause-ran : goal.returns-in-Trial-clause-ran
returns-in-Trial-clause-ran g c = rw c.in-Trial.is (WhereEnded-other_command c.trial.result)

pub returns-in-Run-clause-ends : goal.returns-in-Run-clause-ends
returns-in-Run-clause-ends g c = rw c.in-Run.is c.run.ensures.ends

pub returns-in-RunImprecise-clause-ends : goal.returns-in-RunImprecise-clause-ends
returns-in-RunImprecise-clause-ends g c =
    let i = c.in-RunImprecise in
    rw i.is c.imprecise.ensures.ends

pub returns-in-OfImage-clause-ends : goal.returns-in-OfImage-clause-ends
returns-in-OfImage-clause-ends g c = rw c.in-OfImage.is c.of_image.ensures.ends

pub returns-in-Make-clause-ends : goal.returns-in-Make-clause-ends
returns-in-Make-clause-ends g c = rw c.in-Make.is tt

pub returns-in-Link-clause-ends : goal.returns-in-Link-clause-ends
returns-in-Link-clause-ends g c = rw c.in-Link.is tt

pub returns-in-Replay-clause-ends : goal.returns-in-Replay-clause-ends
returns-in-Replay-clause-ends g c = rw c.in-Replay.is c.replay.ensures.ends

pub returns-in-Record-clause-ends : goal.returns-in-Record-clause-ends
returns-in-Record-clause-ends g c = rw c.in-Record.is c.record.ensures.ends

pub returns-in-Trial-clause-ends : goal.returns-in-Trial-clause-ends
returns-in-Trial-clause-ends g c = rw c.in-Trial.is c.trial.ensures.ends
