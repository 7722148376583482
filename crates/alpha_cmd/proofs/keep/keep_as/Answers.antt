use Rattle.std.proofs.Common.{length, refl, ap, subst, sym, inl, inr, ⊎_elim, ◌∙◌}
use Rattle.alpha_io.specs.Faults.{Faulted}
use Rattle.alpha_io.specs.Files.{Refuses}
use Rattle.alpha_io.specs.ShelfChange.{shelf_change}
use Rattle.alpha_cmd.specs.declared.status.Status.TheVariants.{ShelfFault}
use Rattle.alpha_cmd.specs.Answer.{Answer}
use Rattle.alpha_cmd.specs.AnswerBy.{World, kept_as}
use Rattle.alpha_cmd.specs.Decision.{answer_in}
use Rattle.alpha_cmd.specs.Ends.{FinalOutcome}
use Rattle.alpha_cmd.specs.Form.{MayKeepBy, keeps_last}
use Rattle.alpha_cmd.specs.Keeping.{AttemptsKeep}
use Rattle.alpha_cmd.specs.Kept.{nothing, file, spoilt}
use Rattle.alpha_cmd.specs.Outcome.{continues, stops}
use Rattle.alpha_cmd.specs.Status.{status_line}
use Rattle.alpha_cmd.proofs.StageLaws.{Refuses-decided}
use Rattle.alpha_cmd.proofs.keep.keep_as.Goals as goal

pub returns-in-Ok-clause-tried : goal.returns-in-Ok-clause-tried
returns-in-Ok-clause-tried g c = λ input.
    let out = c.args.out.now in
    let bytes = c.args.bytes.now in (
      file out bytes,
      inl (
        continues (kept_as input out bytes),
        ((λ untaken. let no = (c.in-Ok.ensures.cause.refusal untaken).0 in cc), refl),
        ap (λ (a : Answer). record a { kept = file out bytes }) (c.of_status.ensures.answer input),
      ),
      (c.in-Ok.ensures.ok, c.in-Ok.ensures.others),
    )

pub returns-in-Ok-clause-files : goal.returns-in-Ok-clause-files
returns-in-Ok-clause-files g c =
    inr (
      c.args.out.now,
      subst (λ s. MayKeepBy (keeps_last c.args.out.now) s c.args.out.now) (sym c.of_status.ensures.status)
          (refl, inl refl),
      c.in-Ok.ensures.others,
    )

pub returns-in-Ok-clause-kept : goal.returns-in-Ok-clause-kept
returns-in-Ok-clause-kept g c = λ done. c.in-Ok.ensures.replies

pub returns-in-Err-clause-kept : goal.returns-in-Err-clause-kept
returns-in-Err-clause-kept g c = λ done. absurd (let x = sym c.of_status-in-Err.ensures.status ∙ done in cc)

pub returns-in-Err-clause-tried : goal.returns-in-Err-clause-tried
returns-in-Err-clause-tried g c = λ input.
    let w : World =
    record { files = g.H.Shelf.files c.args.shelf.now; takes = g.H.Shelf.takes c.args.shelf.now; input = input } in
    let out = c.args.out.now in
    let bytes = c.args.bytes.now in
    let rose = Faulted (g.H.Shelf.faults c.args.shelf.now) (g.H.Shelf.faults c.keep.new.self) in
    let refusal = Refuses w.files (w.takes out (length bytes)) in
    let all = shelf_change g.H.Shelf c.args.shelf.now c.keep.new.self in
    let rest = answer_in input c.of_status-in-Err.result in
    let is = c.of_status-in-Err.ensures.answer input in
    let failed : (refusal → ⊥) → rose → FinalOutcome (AttemptsKeep rose w out bytes) rest all =
    λ fits cause.
    (spoilt out, inr (cause, fits, ap (λ (a : Answer). record a { kept = spoilt out }) is), c.in-Err.ensures.others) in
    let untaken : refusal → FinalOutcome (AttemptsKeep rose w out bytes) rest all =
    λ h. (
      nothing,
      inl (
        stops ShelfFault (status_line ShelfFault),
        ((refl, h), refl),
        ap (λ (a : Answer). record a { kept = nothing }) is,
      ),
      c.in-Err.ensures.refused h,
    ) in
    ⊎_elim untaken (λ (fits : refusal → ⊥). ⊎_elim (failed fits) untaken c.in-Err.ensures.cause.err)
    (Refuses-decided w.files (w.takes out (length bytes)))

pub returns-in-Err-clause-files : goal.returns-in-Err-clause-files
returns-in-Err-clause-files g c =
    inr (
      c.args.out.now,
      subst (λ s. MayKeepBy (keeps_last c.args.out.now) s c.args.out.now) (sym c.of_status-in-Err.ensures.status)
          (refl, inr (inl refl)),
      c.in-Err.ensures.others,
    )
