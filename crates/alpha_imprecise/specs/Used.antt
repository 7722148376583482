-- How many units a run has used.
use Rattle.std.specs.Prelude.{◌≡◌, ◌≤◌, ◌||◌, ℕ, true, false, is_none}
use Rattle.alpha_imprecise.specs.StepResult.{StepResult}
use Rattle.alpha_imprecise.specs.Run.{finished}

-- A run to here, which used these units, has used so many with nothing pending, or it is over before.
pub record HasUsed (n units : ℕ) (w : StepResult) : Type 0 where
  pub settled : (finished w.last_event || is_none w.pending) ≡ true
  pub most : units ≤ n
  pub full : finished w.last_event ≡ false → units ≡ n
