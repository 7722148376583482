use Rattle.std.proofs.Common.{◌∙◌, arith, inl, inr, ⊎_elim}
use Rattle.std.proofs.lemmas.Result.{err_from_is_err_and}
use Rattle.std.proofs.Math.Seq.{drop-cons}
use Rattle.alpha_io.proofs.FaultCounts.{Faulted-earlier}
use Rattle.alpha_io.proofs.ShelfLaws.{KeepsFiles-trans}
use Rattle.alpha_cmd.specs.Commands.Link.{module_limit}
use Rattle.alpha_cmd.specs.Image.{Reads}
use Rattle.alpha_cmd.specs.Outcome.{stops}
use Rattle.alpha_cmd.specs.Stage.{Cuts, stop_status, stop_line}
use Rattle.alpha_cmd.proofs.AttemptsByForm.{Cuts-map}
use Rattle.alpha_cmd.proofs.Commands.Link.{files_next, files_stop, reads_next, ReadsLeft-IsReadEach}
use Rattle.alpha_cmd.proofs.link.read_files.Goals as goal

pub loop-name-preserved : goal.loop-name-preserved
loop-name-preserved g c =
    let old = g.H.Shelf.files c.args.shelf.now in
    let middle = g.H.Shelf.files c.loop-name.shelf in
    let so_far = c.loop-name.invariant in
    let now = c.in_ok-bytes.ensures.stage in
    record {
      rest =
          files_next old middle c.args.names.now c.loop-name.all.items c.push.new.self.items c.loop-name.name-index _
          c.in_ok-bytes.bytes
          (drop-cons c.args.names.now c.loop-name.name-index _ (omega arith)) so_far.shelf.files now.ok
          c.in-Ok.ensures.items so_far.rest;
      read =
          reads_next _ _ _ c.args.names.now c.loop-name.all.items c.push.new.self.items c.loop-name.name-index _
          c.in_ok-bytes.bytes
          (drop-cons c.args.names.now c.loop-name.name-index _ (omega arith)) c.in_ok-bytes.ensures.read
          c.in-Ok.ensures.items so_far.read;
      count = omega (arith, so_far.count, c.in-Ok.ensures.len);
      shelf = record {
        files = KeepsFiles-trans old middle (g.H.Shelf.files c.read_file.new.shelf) so_far.shelf.files now.shelf.files;
        takes = now.shelf.takes ∙ so_far.shelf.takes;
        later = omega (arith, so_far.shelf.later, now.shelf.later);
        faults_unchanged = λ always. now.shelf.faults_unchanged (λ e. cc) ∙ so_far.shelf.faults_unchanged tt;
      };
    }

pub returns-clause-read : goal.returns-clause-read
returns-clause-read g c =
    ReadsLeft-IsReadEach _ _ c.args.names.now c.loop-name.all.items c.loop-name.name-index
    (omega arith) c.loop-name.invariant.read

pub returns-in_err-bytes-clause-found : goal.returns-in_err-bytes-clause-found
returns-in_err-bytes-clause-found g c =
    let p = err_from_is_err_and c.from_residual.result c.from_residual.ensures.1 in
    let old = g.H.Shelf.files c.args.shelf.now in
    let middle = g.H.Shelf.files c.loop-name.shelf in
    let faults = g.H.Shelf.faults in
    let so_far = c.loop-name.invariant in
    let s = c.in_err-bytes.field-0.0 in
    let stage = c.in_err-bytes.ensures.stage in
    rw (p.1, p.2)
    (record {
      ok = tt;
      refused =
          ⊎_elim (λ (stopped : Reads middle _ module_limit (stops (stop_status s) (stop_line s))).
          inl (files_stop old middle c.args.names.now c.loop-name.all.items c.loop-name.name-index _ (stop_status s)
          (stop_line s) (drop-cons c.args.names.now c.loop-name.name-index _ (omega arith)) so_far.shelf.files stopped
          so_far.rest))
          (λ (cut : Cuts _ s). inr (Cuts-map _ _ (Faulted-earlier (faults c.args.shelf.now) (faults c.loop-name.shelf)
          (faults c.read_file.new.shelf) so_far.shelf.later) s cut)) stage.refused;
      shelf = record {
        files =
            KeepsFiles-trans old middle (g.H.Shelf.files c.read_file.new.shelf) so_far.shelf.files stage.shelf.files;
        takes = stage.shelf.takes ∙ so_far.shelf.takes;
        later = omega (arith, so_far.shelf.later, stage.shelf.later);
        faults_unchanged = λ always. stage.shelf.faults_unchanged (λ e. always cc) ∙ so_far.shelf.faults_unchanged tt;
      };
    })
