-- Steps that only go on with nothing pending, or pass a barrier, many behind one another.
use Rattle.std.proofs.Common.{◌≡◌, ◌+◌, ℕ, zero, suc, inl, inr, Bool, false, cond, [], Option, None, refl, ap, sym}
use Rattle.std.proofs.Common.{subst, ◌∙◌, arith}
use Rattle.alpha_table.specs.Class.{Class, barrier}
use Rattle.alpha_pal.specs.Call.{Silent}
use Rattle.alpha_seq.specs.declared.machine.Machine.{Machine}
use Rattle.alpha_seq.specs.State.{Barriered}
use Rattle.alpha_seq.specs.Step.{step}
use Rattle.alpha_seq.specs.Machine.{program_of, state_of, class_here}
use Rattle.alpha_seq.proofs.ExecutedInsns.{ExecutesWord-kernel}
use Rattle.alpha_rows.specs.PassingSteps.{PassesBarrier, GoesOn, PassingSteps}
use Rattle.alpha_imprecise.specs.Step.{triggers, triggered, precisely}
use Rattle.alpha_imprecise.specs.Chosen.{reporting}
use Rattle.alpha_imprecise.specs.ImpreciseState.{ImpreciseState, imprecise_state}
use Rattle.alpha_imprecise.specs.ImpreciseStepEffect.{ImpreciseRetires}
use Rattle.alpha_imprecise.specs.ImpreciseFastSteps.{ImpreciseFastSteps, ImprecisePassesBarrier, ImpreciseGoesOn}
use Rattle.alpha_imprecise.specs.ImpreciseFastSteps.{ImprecisePassingSteps}
use Rattle.alpha_imprecise.proofs.ChoicesMade.{ImpreciseRetires-Retires}

-- a barrier that is no PAL call, with nothing pending
imprecise-passes_barrier : (old new : Machine) → PassesBarrier old new
    → ImprecisePassesBarrier (imprecise_state old None) (imprecise_state new None)
imprecise-passes_barrier old new h =
    let g = program_of old in
    let o = class_here old in
    let exact : triggers o (state_of old) ≡ false = ap (λ (p : Option Class). triggers p (state_of old)) h.here in
    record {
      nothing_pending = refl;
      exact = exact;
      step = record {
        is =
            ap (λ (b : Bool).
            cond b (triggered g o (state_of old) (reporting 0).choice) (precisely (step g o (state_of old) [])))
            exact
            ∙ ap precisely (ap (λ (p : Option Class). step g p (state_of old) []) h.here ∙ h.does.is []);
        waited = refl;
        kernel = ExecutesWord-kernel (Barriered Silent new.pc new.regs) (barrier None) old new h.here h.does;
        program = h.does.program;
      };
    }

imprecise-goes_on : (barriers : Bool) (old new : Machine) → GoesOn barriers old new
    → ImpreciseGoesOn barriers (imprecise_state old None) (imprecise_state new None)
imprecise-goes_on barriers old new (inl h) = inl (ImpreciseRetires-Retires old new h)
imprecise-goes_on barriers old new (inr h) = inr (h.0, imprecise-passes_barrier old new h.1)

-- those of the machine
pub PassingSteps-imprecise : (barriers : Bool) (n : ℕ) (old new : Machine) → PassingSteps barriers n old new
    → ImprecisePassingSteps barriers n (imprecise_state old None) (imprecise_state new None)
PassingSteps-imprecise barriers zero old new same = ap (λ (m : Machine). imprecise_state m None) same
PassingSteps-imprecise barriers (suc n) old new steps = (
  imprecise_state steps.0 None,
  PassingSteps-imprecise barriers n old steps.0 steps.1,
  imprecise-goes_on barriers steps.0 new steps.2,
)

-- what holds of each number of steps, held of some, if each step leaves it to the next
pub ImprecisePassingSteps-fold : (barriers : Bool) (P : ℕ → ImpreciseState → Type 0)
    → ((k : ℕ) (mid new : ImpreciseState) → P k mid → ImpreciseGoesOn barriers mid new → P (k + 1) new)
    → (n k : ℕ) (old new : ImpreciseState) → P k old → ImprecisePassingSteps barriers n old new → P (k + n) new
ImprecisePassingSteps-fold barriers P more zero k old new held same =
    subst (λ (i : ℕ). P i new) (omega arith) (subst (P k) (sym same) held)
ImprecisePassingSteps-fold barriers P more (suc n) k old new held steps =
    subst (λ (i : ℕ). P i new) (omega arith)
    (more (k + n) steps.0 new (ImprecisePassingSteps-fold barriers P more n k old steps.0 held steps.1) steps.2)

-- where no barrier is passed they only go on
pub ImprecisePassingSteps-fast : (n : ℕ) (old new : ImpreciseState) → ImprecisePassingSteps false n old new
    → ImpreciseFastSteps n old new
ImprecisePassingSteps-fast zero old new same = same
ImprecisePassingSteps-fast (suc n) old new steps =
    (steps.0, ImprecisePassingSteps-fast n old steps.0 steps.1, by steps.2)
  where
    by : ImpreciseGoesOn false steps.0 new → ImpreciseRetires steps.0 new
    by (inl goes) = goes
    by (inr h) = absurd (let no = h.0 in cc)
