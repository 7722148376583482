use Rattle.std.proofs.Common.{List, ℕ, Some, refl, ap}
use Rattle.alpha_imprecise.specs.Pcg.{pcg_word}
use Rattle.alpha_trial.proofs.RunTotals.{makes_to}
use Rattle.alpha_trial.proofs.runs.run_imprecise.Goals as goal

pub returns-in-Ok : goal.returns-in-Ok
returns-in-Ok c = record {
  counts =
      makes_to c.in-Ok.field-0 c.args.units c.run_imprecise.new.left c.args.wild.now c.run_imprecise.new.wild _ _ _ _ _
      c.run_imprecise.new.out.written c.run_imprecise.new.chooser.drawn
      (pcg_word c.args.chooser.now.chooser) c.in-Ok.ensures.made c.requires.pending
      (ap (λ (l : List ℕ). Some l) c.requires.input) (ap (λ (l : List ℕ). Some l) c.requires.out) refl
      refl (ap (λ (n : ℕ). Some n) c.requires.drawn) refl;
}
