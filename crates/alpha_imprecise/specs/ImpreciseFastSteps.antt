-- Steps of the imprecise machine that only go on with nothing pending, or pass a barrier, many behind one another.
use Rattle.std.specs.Prelude.{◌≡◌, ℕ, zero, suc, ◌⊎◌, Bool, true, false, None}
use Rattle.alpha_pal.specs.Call.{Silent}
use Rattle.alpha_seq.specs.State.{Barriered}
use Rattle.alpha_seq.specs.Machine.{class_here, state_of}
use Rattle.alpha_imprecise.specs.StepResult.{Precisely}
use Rattle.alpha_imprecise.specs.Step.{triggers}
use Rattle.alpha_imprecise.specs.Chosen.{reporting}
use Rattle.alpha_imprecise.specs.ImpreciseState.{ImpreciseState}
use Rattle.alpha_imprecise.specs.ImpreciseStepEffect.{ImpreciseRetires, StepsBy}

-- so many steps by no word, each of which only went on
abbrev pub ImpreciseFastSteps : ℕ → ImpreciseState → ImpreciseState → Type 0
ImpreciseFastSteps zero old new = new ≡ old
ImpreciseFastSteps (suc n) old new = (mid : ImpreciseState) × ImpreciseFastSteps n old mid × ImpreciseRetires mid new

-- With nothing pending the step passed a barrier, and nothing passed in it.
pub record ImprecisePassesBarrier (old new : ImpreciseState) : Type 0 where
  pub nothing_pending : old.pending ≡ None
  pub exact : triggers (class_here old.machine) (state_of old.machine) ≡ false
  pub step : StepsBy (Precisely (Barriered Silent new.machine.pc new.machine.regs)) (reporting 0).choice old new

-- a step that only went on, or that passed such a barrier where these are passed
abbrev pub ImpreciseGoesOn : Bool → ImpreciseState → ImpreciseState → Type 0
ImpreciseGoesOn barriers old new = ImpreciseRetires old new ⊎ ((barriers ≡ true) × ImprecisePassesBarrier old new)

-- so many of them
abbrev pub ImprecisePassingSteps : Bool → ℕ → ImpreciseState → ImpreciseState → Type 0
ImprecisePassingSteps barriers zero old new = new ≡ old
ImprecisePassingSteps barriers (suc n) old new =
    (mid : ImpreciseState) × ImprecisePassingSteps barriers n old mid × ImpreciseGoesOn barriers mid new
