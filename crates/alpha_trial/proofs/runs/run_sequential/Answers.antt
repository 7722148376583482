use Rattle.std.proofs.Common.{List, ℕ, Some, refl, ap}
use Rattle.alpha_trial.proofs.RunTotals.{runs_to}
use Rattle.alpha_trial.proofs.runs.run_sequential.Goals as goal

pub returns-in-Ok : goal.returns-in-Ok
returns-in-Ok c = record {
  counts =
      runs_to c.in-Ok.field-0 c.args.units c.run_sequential.new.left c.args.machine.now c.run_sequential.new.machine _ _
      _ c.run_sequential.new.out.written c.in-Ok.ensures.made
      (ap (λ (l : List ℕ). Some l) c.requires.input) (ap (λ (l : List ℕ). Some l) c.requires.out) refl;
}
