use Rattle.std.proofs.Common.{false, Result, Ok, Err, IfErr, OnOk, refl, inl}
use Rattle.alpha_shadow.specs.Broken.{IsAccepted}
use Rattle.alpha_cmd.specs.declared.stop.Stop.{Stop}
use Rattle.alpha_cmd.specs.Chooser.{ahead_in}
use Rattle.alpha_cmd.specs.Commands.Imprecise.{Passes, Plan, plan_by}
use Rattle.alpha_cmd.specs.Image.{IsRefused}
use Rattle.alpha_cmd.specs.Stage.{Computes, stop_status, stop_line}
use Rattle.alpha_cmd.proofs.imprecise.require_pass.Goals as goal

judged_passes : {U : Type 0} (plan : Plan) (r : Result U Stop) → OnOk r (IsAccepted plan.image.words)
    → IfErr r (λ stop. IsRefused plan.image (stop_status stop) (stop_line stop))
    → Computes (Passes false plan) (λ u. plan) r
judged_passes plan (Ok u) good why = record { ok = (plan.image, (good, refl), refl); refused = tt }
judged_passes plan (Err stop) good why = record { ok = tt; refused = inl (inl why) }

pub returns-then-force-clause-computes : goal.returns-then-force-clause-computes
returns-then-force-clause-computes c = rw c.if-force.true (record { ok = refl; refused = tt })

pub returns-else-force-clause-computes : goal.returns-else-force-clause-computes
returns-else-force-clause-computes c =
    rw c.if-force.false
    (judged_passes (plan_by c.args.plan.now.image (ahead_in c.args.plan.now.chooser)) c.require_accepted.result
    c.require_accepted.ensures.ok c.require_accepted.ensures.refused)

pub returns-else-force-clause-whole : goal.returns-else-force-clause-whole
returns-else-force-clause-whole c = λ accepted. c.require_accepted.ensures.whole (accepted c.if-force.false)
