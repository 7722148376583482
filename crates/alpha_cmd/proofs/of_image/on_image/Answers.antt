use Rattle.alpha_request.specs.declared.request.ImageCommand.TheVariants.{Check}
use Rattle.alpha_cmd.specs.OfImage.{on}
use Rattle.alpha_cmd.proofs.StageEffects.{does_at_once}
use Rattle.alpha_cmd.proofs.of_image.on_image.Goals as goal

pub returns-in-Check-clause-does : goal.returns-in-Check-clause-does
returns-in-Check-clause-does g c =
    rw c.in-Check.is
    (does_at_once g.H.Shelf g.S.Source g.K.Sink g.N.Sink c.args.devices.now
    (on Check c.args.image) c.check_image.result c.check_image.ensures.answer)

pub returns-in-Check-clause-ran : goal.returns-in-Check-clause-ran
returns-in-Check-clause-ran g c = rw c.in-Check.is (λ ends. tt)

pub returns-in-Dis-clause-ran : goal.returns-in-Dis-clause-ran
returns-in-Dis-clause-ran g c = rw c.in-Dis.is c.list_image.ensures.shows

pub returns-in-Debug-clause-ran : goal.returns-in-Debug-clause-ran
returns-in-Debug-clause-ran g c = rw c.in-Debug.is c.session.ensures.ran

pub returns-in-Check-clause-ends : goal.returns-in-Check-clause-ends
returns-in-Check-clause-ends g c = rw c.in-Check.is c.check_image.ensures.ends

pub returns-in-Dis-clause-ends : goal.returns-in-Dis-clause-ends
returns-in-Dis-clause-ends g c = rw c.in-Dis.is c.list_image.ensures.ends

pub returns-in-Debug-clause-ends : goal.returns-in-Debug-clause-ends
returns-in-Debug-clause-ends g c = rw c.in-Debug.is c.session.ensures.ends
