use Rattle.std.proofs.Common.{◌∙◌, ◌++◌, List, ap, append_assoc}
use Rattle.std.proofs.lemmas.Result.{err_from_is_err_and}
use Rattle.alpha_io.specs.History.{Reply}
use Rattle.alpha_request.specs.Options.{origin_of}
use Rattle.alpha_cmd.specs.Chooser.{ahead_in}
use Rattle.alpha_cmd.specs.Choosing.{ChoicesOf}
use Rattle.alpha_cmd.specs.Commands.Imprecise.{plan_by}
use Rattle.alpha_cmd.specs.Image.{ImageOf}
use Rattle.alpha_cmd.specs.Outcome.{Gives}
use Rattle.alpha_cmd.proofs.EffectsAfterRead.{second_stops}
use Rattle.alpha_cmd.proofs.PlansRead.{ReadsWords-behind, words_taken}
use Rattle.alpha_cmd.proofs.imprecise.read_plan.Goals as goal

pub returns-in_err-chooser-clause-stage : goal.returns-in_err-chooser-clause-stage
returns-in_err-chooser-clause-stage g c =
    let p = err_from_is_err_and c.from_residual-in_err-chooser.result c.from_residual-in_err-chooser.ensures.1 in
    rw (p.1, p.2)
    (second_stops g.H.Shelf c.args.shelf.now c.load.new.shelf c.chooser_of.new.shelf
    (λ files. ImageOf files c.args.file.now) (λ files. ChoicesOf files (origin_of c.args.choices.now))
    (λ image ahead. Gives (plan_by image ahead)) (λ plan. plan_by plan.image (ahead_in plan.chooser))
    c.in_ok-image.image c.in_err-chooser.field-0.0 _ (λ e. cc) c.in_ok-image.ensures.stage.ok
    c.in_ok-image.ensures.stage.shelf c.in_err-chooser.ensures.stage)

pub returns-clause-read : goal.returns-clause-read
returns-clause-read g c = record {
  middle = g.H.Shelf.replies c.load.new.shelf;
  good = c.in_ok-image.ensures.read.0;
  read = c.in_ok-image.ensures.read.1;
  words = c.in_ok-chooser.ensures.read;
}

pub returns-in_err-image-clause-first : goal.returns-in_err-image-clause-first
returns-in_err-image-clause-first g c = λ plan middle rest read behind.
    let p = err_from_is_err_and c.from_residual.result c.from_residual.ensures.1 in
    let (asked, words) =
    ReadsWords-behind read.middle middle (origin_of c.args.choices.now) plan.ahead read.words in
    rw (p.1, p.2)
    (c.in_err-image.ensures.first plan.image read.middle (asked ++ rest) read.good read.read
    (behind ∙ (ap (λ (l : List Reply). l ++ rest) words ∙ append_assoc read.middle asked rest)))

pub returns-in_err-chooser-clause-first : goal.returns-in_err-chooser-clause-first
returns-in_err-chooser-clause-first g c = λ plan middle rest read behind.
    let p = err_from_is_err_and c.from_residual-in_err-chooser.result c.from_residual-in_err-chooser.ensures.1 in
    rw (p.1, p.2)
    (words_taken (g.H.Shelf.replies c.args.shelf.now) (g.H.Shelf.replies c.load.new.shelf)
    (g.H.Shelf.replies c.chooser_of.new.shelf) middle rest (origin_of c.args.choices.now) c.args.file.now
    c.in_ok-image.image plan c.in_err-chooser.field-0.0 c.in_ok-image.ensures.read.1 read behind
    c.in_err-chooser.ensures.sure c.in_err-chooser.ensures.part)
