use Rattle.std.proofs.Common.{◌∙◌, ℕ, List, sym, subst, inl, inr, ⊎_elim}
use Rattle.std.proofs.lemmas.Result.{err_from_is_err_and}
use Rattle.alpha_io.specs.History.{IsReadWhole}
use Rattle.alpha_cmd.proofs.ReplaysRead.{IfErr-untaken}
use Rattle.alpha_cmd.proofs.StageLaws.{IfOk-more}
use Rattle.alpha_cmd.proofs.replay.load_journal.Goals as goal

pub returns-clause-read : goal.returns-clause-read
returns-clause-read g c =
    let old = g.H.Shelf.replies c.args.shelf.now in
    let new = g.H.Shelf.replies c.read_file.new.shelf in
    IfOk-more c.journal_of.result (λ p spells. (
      spells.0,
      subst (λ (l : List ℕ). IsReadWhole old new c.args.name.now l) (sym c.as_slice.ensures.value ∙ spells.1)
          c.in_ok-bytes.ensures.read,
    )) c.journal_of.ensures.ok

pub returns-in_err-bytes-clause-part : goal.returns-in_err-bytes-clause-part
returns-in_err-bytes-clause-part g c =
    let p = err_from_is_err_and c.from_residual.result c.from_residual.ensures.1 in
    rw (p.1, p.2) (⊎_elim (λ e. inl e) (λ part. inr (inl part)) c.in_err-bytes.ensures.part)

pub returns-clause-part : goal.returns-clause-part
returns-clause-part g c =
    let old = g.H.Shelf.replies c.args.shelf.now in
    let new = g.H.Shelf.replies c.read_file.new.shelf in
    IfErr-untaken old new c.args.name.now c.as_slice.result.now c.journal_of.result
    (subst (λ (l : List ℕ). IsReadWhole old new c.args.name.now l) (sym c.as_slice.ensures.value)
    c.in_ok-bytes.ensures.read) c.journal_of.ensures.refused
