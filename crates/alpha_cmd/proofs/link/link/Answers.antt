use Rattle.std.proofs.Common.{◌∙◌, ◌++◌, ◌∷◌, [], true, map, ap}
use Rattle.alpha_io.specs.History.{Kept}
use Rattle.alpha_cmd.specs.Commands.Link.{LinksFiles}
use Rattle.alpha_cmd.specs.Form.{keeps_last, needs_files}
use Rattle.alpha_cmd.specs.Keeping.{KeepsAs}
use Rattle.alpha_cmd.proofs.EffectsAfterRead.{does_stop}
use Rattle.alpha_cmd.proofs.Commands.Link.{makes_plain}
use Rattle.alpha_cmd.proofs.StageEffects.{CommandEffect-making}
use Rattle.alpha_cmd.proofs.StageLaws.{SaysStop-not_done}
use Rattle.alpha_cmd.proofs.link.link.Goals as goal

pub returns-in-Ok-clause-does : goal.returns-in-Ok-clause-does
returns-in-Ok-clause-does g c =
    let names = map (λ name. name.now) c.args.files.now in
    CommandEffect-making g.H.Shelf g.S.Source g.K.Sink g.N.Sink c.args.devices.now c.read_and_link.new.shelf
    c.keep_as.new.shelf
    (λ w. LinksFiles w.files c.args.entry.now names)
    c.args.out.now c.in-Ok.bytes.items c.as_slice.result.now c.keep_as.result _
    (λ e. cc) c.in-Ok.ensures.stage.ok c.in-Ok.ensures.stage.shelf c.as_slice.ensures.value
    c.keep_as.ensures.tried c.keep_as.ensures.shelf c.keep_as.ensures.files

pub returns-in-Ok-clause-kept : goal.returns-in-Ok-clause-kept
returns-in-Ok-clause-kept g c = λ done.
    let (files, read, made) = c.in-Ok.ensures.read in
    let middle = g.H.Shelf.replies c.read_and_link.new.shelf in
    record {
      middle = middle;
      files = files;
      bytes = c.in-Ok.bytes.items;
      read = read;
      made = made;
      kept =
          c.keep_as.ensures.kept done
          ∙ ap (λ bytes. middle ++ Kept c.args.out.now bytes true ∷ []) c.as_slice.ensures.value;
    }

pub returns-in-Err-clause-does : goal.returns-in-Err-clause-does
returns-in-Err-clause-does g c =
    let names = map (λ name. name.now) c.args.files.now in
    does_stop g.H.Shelf g.S.Source g.K.Sink g.N.Sink c.args.devices.now c.read_and_link.new.shelf
    (λ files. LinksFiles files c.args.entry.now names) (λ w. KeepsAs w c.args.out.now)
    needs_files (keeps_last c.args.out.now) c.of_stop.result c.in-Err.stop c.of_stop.ensures c.in-Err.ensures.stage

pub returns-in-Err-clause-kept : goal.returns-in-Err-clause-kept
returns-in-Err-clause-kept g c = λ done.
    let names = map (λ name. name.now) c.args.files.now in
    let files = g.H.Shelf.files c.args.devices.now.shelf in
    absurd (SaysStop-not_done (LinksFiles files c.args.entry.now names) _
    (makes_plain files c.args.entry.now names) c.in-Err.stop c.of_stop.result c.of_stop.ensures
    c.in-Err.ensures.stage.refused done)
