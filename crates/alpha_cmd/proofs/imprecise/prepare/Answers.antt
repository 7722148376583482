use Rattle.std.proofs.Common.{◌≡◌, subst, sym, inl, inr, ⊎_elim}
use Rattle.std.proofs.lemmas.Result.{err_from_is_err_and}
use Rattle.alpha_io.specs.ShelfChange.{shelf_change}
use Rattle.alpha_image.specs.Parts.{Parts}
use Rattle.alpha_shadow.specs.Broken.{IsAccepted}
use Rattle.alpha_request.specs.Options.{origin_of}
use Rattle.alpha_cmd.specs.Chooser.{ahead_in}
use Rattle.alpha_cmd.specs.Commands.Imprecise.{Plan, PlanOf, Planned, Passes, plan_by, plan_in}
use Rattle.alpha_cmd.specs.Outcome.{stops}
use Rattle.alpha_cmd.specs.PlanRead.{IsPlanRead}
use Rattle.alpha_cmd.specs.Stage.{stop_status, stop_line}
use Rattle.alpha_cmd.specs.declared.status.Status.TheVariants.{NoMemory}
use Rattle.alpha_cmd.specs.declared.stop.Stop.TheVariants.{OfStatus}
use Rattle.alpha_cmd.proofs.StageEffects.{stage_made}
use Rattle.alpha_cmd.proofs.Lawful.{Then-stops}
use Rattle.alpha_cmd.proofs.StageLaws.{IfOk-more}
use Rattle.alpha_cmd.proofs.PlansRead.{same_image}
use Rattle.alpha_cmd.proofs.imprecise.prepare.Goals as goal

pub returns-in_err-plan-clause-stage : goal.returns-in_err-plan-clause-stage
returns-in_err-plan-clause-stage g c =
    let a = c.args.asked.now in
    let p = err_from_is_err_and c.from_residual.result c.from_residual.ensures.1 in
    let s = c.in_err-plan.field-0.0 in
    let reads = c.in_err-plan.ensures.stage.shelf in
    rw (p.1, p.2)
    (record {
      ok = tt;
      refused =
          Then-stops (PlanOf (g.H.Shelf.files c.args.shelf.now) a.file.now (origin_of a.choices)) (Passes a.force)
          (stop_status s) (stop_line s) c.in_err-plan.ensures.stage.refused;
      shelf = record {
        files = reads.files;
        takes = reads.takes;
        later = reads.later;
        faults_unchanged = λ always. reads.faults_unchanged (λ e. always cc);
      };
    })

pub returns-clause-stage : goal.returns-clause-stage
returns-clause-stage g c =
    let a = c.args.asked.now in
    let read = c.in_ok-plan.ensures in
    let plan = plan_by c.in_ok-plan.plan.image (ahead_in c.in_ok-plan.plan.chooser) in
    stage_made (Planned (origin_of a.choices) a.force a.file.now (g.H.Shelf.files c.args.shelf.now))
    (λ begun. plan_in begun) plan c.begin.result
    (shelf_change g.H.Shelf c.args.shelf.now c.read_plan.new.shelf) _ (λ e. cc)
    (plan, read.stage.ok, c.in_ok-require_pass.ensures.computes.ok) read.stage.shelf c.begin.ensures.ok
    c.begin.ensures.refused

pub returns-clause-read : goal.returns-clause-read
returns-clause-read g c =
    let a = c.args.asked.now in
    let old = g.H.Shelf.replies c.args.shelf.now in
    let new = g.H.Shelf.replies c.read_plan.new.shelf in
    IfOk-more c.begin.result
    (λ begun is. subst (λ (p : Plan). IsPlanRead old new (origin_of a.choices) a.file.now p) (sym is)
    c.in_ok-plan.ensures.read) c.begin.ensures.ok

pub returns-in_err-plan-clause-first : goal.returns-in_err-plan-clause-first
returns-in_err-plan-clause-first g c = λ plan middle rest accepted read behind.
    let p = err_from_is_err_and c.from_residual.result c.from_residual.ensures.1 in
    rw (p.1, p.2) (c.in_err-plan.ensures.first plan middle rest read behind)

pub returns-in_err-require_pass-clause-first : goal.returns-in_err-require_pass-clause-first
returns-in_err-require_pass-clause-first g c = λ plan middle rest accepted read behind.
    let a = c.args.asked.now in
    let old = g.H.Shelf.replies c.args.shelf.now in
    let new = g.H.Shelf.replies c.read_plan.new.shelf in
    let found = plan_by c.in_ok-plan.plan.image (ahead_in c.in_ok-plan.plan.chooser) in
    absurd (c.in_err-require_pass.ensures.whole (λ judges. subst (λ (p : Parts). IsAccepted p.words)
    (same_image old new middle rest (origin_of a.choices) a.file.now found plan c.in_ok-plan.ensures.read read behind)
    (accepted judges)))

pub returns-clause-first : goal.returns-clause-first
returns-clause-first g c = λ plan middle rest accepted read behind. c.begin.ensures.refused

pub returns-in_err-require_pass-clause-stage : goal.returns-in_err-require_pass-clause-stage
returns-in_err-require_pass-clause-stage g c =
    let a = c.args.asked.now in
    let p =
    err_from_is_err_and c.from_residual-in_err-require_pass.result c.from_residual-in_err-require_pass.ensures.1 in
    let s = c.in_err-require_pass.field-0.0 in
    let plan = plan_by c.in_ok-plan.plan.image (ahead_in c.in_ok-plan.plan.chooser) in
    let read = c.in_ok-plan.ensures.stage in
    let reads = read.shelf in
    rw (p.1, p.2)
    (record {
      ok = tt;
      refused =
          ⊎_elim (λ (why : Passes a.force plan (stops (stop_status s) (stop_line s))). inl (inr (plan, read.ok, why)))
          (λ (e : s ≡ OfStatus NoMemory). inr (inl e)) c.in_err-require_pass.ensures.computes.refused;
      shelf = record {
        files = reads.files;
        takes = reads.takes;
        later = reads.later;
        faults_unchanged = λ always. reads.faults_unchanged (λ e. cc);
      };
    })
