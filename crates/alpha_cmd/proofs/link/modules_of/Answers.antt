use Rattle.std.proofs.Common.{◌≡◌, ◌⊎◌, inl, inr, subst, ⊎_elim, arith}
use Rattle.std.proofs.lemmas.Result.{err_from_is_err_and}
use Rattle.alpha_cmd.specs.declared.status.Status.TheVariants.{NoMemory}
use Rattle.alpha_cmd.specs.declared.stop.Stop.TheVariants.{OfStatus}
use Rattle.alpha_cmd.specs.Outcome.{continues, stops}
use Rattle.alpha_cmd.specs.Stage.{stop_status, stop_line}
use Rattle.alpha_cmd.specs.Commands.Link.{ModuleOf}
use Rattle.alpha_cmd.proofs.Commands.Link.{modules_next, modules_stop}
use Rattle.alpha_cmd.proofs.link.modules_of.Goals as goal

pub returns-in_err-module-clause-spelled : goal.returns-in_err-module-clause-spelled
returns-in_err-module-clause-spelled c =
    let p = err_from_is_err_and c.from_residual.result c.from_residual.ensures.1 in
    let at = c.loop-number in
    let bytes = c.index-files-number.result in
    let s = c.in_err-module.field-0.0 in
    let refused = subst (λ b. ModuleOf at.number b (stops (stop_status s) (stop_line s)) ⊎ (s ≡ OfStatus NoMemory))
    c.as_slice.ensures.value c.in_err-module.ensures.refused in
    rw (p.1, p.2)
    (record {
      ok = tt;
      refused =
          ⊎_elim
          (λ (h : ModuleOf at.number bytes.items (stops (stop_status s) (stop_line s))).
          inl (modules_stop c.args.files.now at.all.items at.number bytes (stop_status s) (stop_line s)
          (omega arith) c.index-files-number.is at.invariant.count h at.invariant.rest))
          (λ (h : s ≡ OfStatus NoMemory). inr h)
          refused;
    })

pub loop-number-preserved : goal.loop-number-preserved
loop-number-preserved c = record {
  rest =
      modules_next c.args.files.now c.loop-number.all.items c.push.new.self.items c.loop-number.number
      c.index-files-number.result c.in_ok-module.module (omega arith)
      c.index-files-number.is c.loop-number.invariant.count
      (subst (λ b. ModuleOf c.loop-number.number b (continues c.in_ok-module.module)) c.as_slice.ensures.value
      c.in_ok-module.ensures.ok)
      c.in-Ok.ensures.items c.loop-number.invariant.rest;
  count = omega (arith, c.loop-number.invariant.count, c.in-Ok.ensures.len);
}
