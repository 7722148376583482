use Rattle.std.proofs.lemmas.Result.{err_from_is_err_and}
use Rattle.alpha_image.proofs.ReadSpelling.{Refuses-form_fault}
use Rattle.alpha_image.proofs.read.read_image.Goals as goal

pub returns-in_err-header-clause-fault : goal.returns-in_err-header-clause-fault
returns-in_err-header-clause-fault c =
    let p = err_from_is_err_and c.from_residual.result c.from_residual.ensures.1 in
    rw (p.1, p.2)
    (Refuses-form_fault c.in_err-header.field-0.0 c.args.bytes.now c.in_err-header.ensures.memory
    c.in_err-header.ensures.fault)
