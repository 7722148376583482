use Rattle.std.proofs.Common.{◌≡◌, ⊎_elim}
use Rattle.std.proofs.lemmas.Result.{err_from_is_err_and}
use Rattle.alpha_io.specs.History.{IsReadInPart}
use Rattle.alpha_io.proofs.FilePieces.{part-not_whole}
use Rattle.alpha_image.specs.Parts.{image_spelling}
use Rattle.alpha_cmd.specs.declared.status.Status.TheVariants.{NoMemory}
use Rattle.alpha_cmd.specs.declared.stop.Stop.TheVariants.{OfStatus}
use Rattle.alpha_cmd.proofs.EndsWhere.{first_taken, image_spelling-memory_refusal}
use Rattle.alpha_cmd.proofs.image.load.Goals as goal

pub returns-in-Err-clause-whole : goal.returns-in-Err-clause-whole
returns-in-Err-clause-whole g c = λ image good read.
    image_spelling-memory_refusal (g.H.Shelf.replies c.args.shelf.now)
    (g.H.Shelf.replies c.read_file.new.shelf) c.args.name.now c.in_ok-bytes.bytes.items image c.in-Err.status
    c.in_ok-bytes.ensures.read good read c.in-Err.ensures.refused

pub returns-in_err-bytes-clause-whole : goal.returns-in_err-bytes-clause-whole
returns-in_err-bytes-clause-whole g c = λ image good read.
    let p = err_from_is_err_and c.from_residual.result c.from_residual.ensures.1 in
    rw (p.1, p.2) (c.in_err-bytes.ensures.whole (image_spelling image) read)

pub returns-in-Err-clause-first : goal.returns-in-Err-clause-first
returns-in-Err-clause-first g c = λ image middle rest good read behind.
    first_taken (g.H.Shelf.replies c.args.shelf.now)
    (g.H.Shelf.replies c.read_file.new.shelf) middle rest c.args.name.now c.in_ok-bytes.bytes.items image
    c.in-Err.status c.in_ok-bytes.ensures.read good read behind c.in-Err.ensures.refused

pub returns-in_err-bytes-clause-first : goal.returns-in_err-bytes-clause-first
returns-in_err-bytes-clause-first g c = λ image middle rest good read behind.
    let p = err_from_is_err_and c.from_residual.result c.from_residual.ensures.1 in
    let old = g.H.Shelf.replies c.args.shelf.now in
    let new = g.H.Shelf.replies c.read_file.new.shelf in
    rw (p.1, p.2)
    (⊎_elim (λ (e : c.in_err-bytes.field-0.0 ≡ OfStatus NoMemory). e)
    (λ (part : IsReadInPart old new c.args.name.now).
    absurd (part-not_whole old new middle rest c.args.name.now (image_spelling image) part read behind))
    c.in_err-bytes.ensures.part)
