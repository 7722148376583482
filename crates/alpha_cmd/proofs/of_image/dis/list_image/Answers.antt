use Rattle.std.proofs.Common.{◌++◌, ◌∙◌, None, refl, ap, inl, inr, append-nil}
use Rattle.alpha_io.proofs.Sinks.{Puts-none}
use Rattle.alpha_dis.specs.Listing.{listing}
use Rattle.alpha_request.specs.declared.request.ImageCommand.TheVariants.{Dis}
use Rattle.alpha_cmd.specs.declared.status.Status.TheVariants.{Done}
use Rattle.alpha_cmd.specs.Answer.{Answer}
use Rattle.alpha_cmd.specs.AnswerBy.{done_with}
use Rattle.alpha_cmd.specs.OfImage.{on}
use Rattle.alpha_cmd.specs.Outcome.{continues}
use Rattle.alpha_cmd.proofs.StageEffects.{does_put, does_put_part}
use Rattle.alpha_cmd.proofs.of_image.dis.list_image.Goals as goal

pub returns-in-Ok-clause-does : goal.returns-in-Ok-clause-does
returns-in-Ok-clause-does g c =
    let text = listing c.args.image.now in
    does_put g.H.Shelf g.S.Source g.K.Sink g.N.Sink c.args.devices.now c.list.new.out
    (on Dis c.args.image.now) text c.of_status.result (Done 0)
    (inl (continues (done_with (g.S.Source.left c.args.devices.now.input) text), refl, refl)) c.of_status.ensures.answer
    c.in-Ok.ensures.ok

pub returns-in-Err-Sink-clause-does : goal.returns-in-Err-Sink-clause-does
returns-in-Err-Sink-clause-does g c =
    let text = listing c.args.image.now in
    does_put_part g.H.Shelf g.S.Source g.K.Sink g.N.Sink c.args.devices.now c.list.new.out
    (on Dis c.args.image.now) text _
    (continues (done_with (g.S.Source.left c.args.devices.now.input) text), refl, refl) c.list.ensures.prefix
    c.in-Err-Sink.ensures.cause

pub returns-in-Ok-clause-shows : goal.returns-in-Ok-clause-shows
returns-in-Ok-clause-shows g c = λ ends.
    let says = c.of_status.ensures.answer None in
    record {
      status_is = ap (λ (a : Answer). a.status) says;
      front = listing c.args.image.now;
      put = c.in-Ok.ensures.ok;
      noted = Puts-none (g.N.Sink.written c.args.devices.now.notes) (g.N.Sink.faults c.args.devices.now.notes);
      output_is =
          ap (λ (a : Answer). listing c.args.image.now ++ a.output) says ∙ append-nil (listing c.args.image.now);
      line_is = ap (λ (a : Answer). a.line) says;
    }

pub returns-in-Ok-clause-ends : goal.returns-in-Ok-clause-ends
returns-in-Ok-clause-ends g c = inl c.of_status.ensures.status

pub returns-in-Err-Sink-clause-ends : goal.returns-in-Err-Sink-clause-ends
returns-in-Err-Sink-clause-ends g c = inr (inr refl)

pub returns-in-Err-Sink-clause-shows : goal.returns-in-Err-Sink-clause-shows
returns-in-Err-Sink-clause-shows g c = λ ends. tt
