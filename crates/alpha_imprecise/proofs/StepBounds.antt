-- How many steps a run by coming words takes at most.
use Rattle.std.proofs.Common.{◌≡◌, ◌+◌, ℕ, zero, suc, Bool, true, false, cond, Option, Some, None, refl, sym, ap, subst}
use Rattle.std.proofs.Common.{◌∙◌, arith}
use Rattle.alpha_seq.specs.State.{Program}
use Rattle.alpha_imprecise.specs.StepResult.{Trap, ImpreciseEvent}
use Rattle.alpha_imprecise.specs.Run.{finished, unit_of}
use Rattle.alpha_imprecise.specs.Chosen.{most_waited, chosen, waited_after}
use Rattle.alpha_imprecise.specs.ChosenRun.{ChosenRun, advance_chosen_run, steps_of_chosen_run, is_settled}
use Rattle.alpha_imprecise.specs.ChosenRun.{settled_within, settled, chosen_run, most_steps, IsWithin, Nearer, Used}
use Rattle.alpha_imprecise.specs.ChosenRun.{Waiting, Settled, Finished}
use Rattle.alpha_imprecise.proofs.ChosenRuns.{BecomesSettled, none, over, longer, chosen_settles}
use Rattle.alpha_imprecise.proofs.PendingTraps.{stepped_chosen_run, advance_chosen_run-going, stays_settled}
use Rattle.alpha_imprecise.proofs.PendingTraps.{is_settled-none_pending}

module _ (g : Program) where
  -- a step before so many is one behind them
  pub steps-first : (k : ChosenRun) (n : ℕ)
      → steps_of_chosen_run g (advance_chosen_run g k) n ≡ advance_chosen_run g (steps_of_chosen_run g k n)
  steps-first k zero = refl
  steps-first k (suc n) = ap (advance_chosen_run g) (steps-first k n)

  pub steps-then : (k : ChosenRun) (n m : ℕ)
      → steps_of_chosen_run g (steps_of_chosen_run g k n) m ≡ steps_of_chosen_run g k (m + n)
  steps-then k n zero = let same : n ≡ 0 + n = omega arith in ap (steps_of_chosen_run g k) same
  steps-then k n (suc m) =
      let same : suc (m + n) ≡ suc m + n = omega arith in
      ap (advance_chosen_run g) (steps-then k n m) ∙ ap (steps_of_chosen_run g k) same

  none_more : (most : ℕ) (k : ChosenRun) → IsWithin most g k k
  none_more most k = record { steps = 0; bound = omega arith; reached = refl }

  one_more : (k : ChosenRun) → IsWithin 1 g k (advance_chosen_run g k)
  one_more k = record { steps = 1; bound = omega arith; reached = refl }

  joined : (a b : ℕ) (j k l : ChosenRun) → IsWithin a g j k → IsWithin b g k l → IsWithin (a + b) g j l
  joined a b j k l one two =
      let low = one.bound in
      let high = two.bound in
      record {
        steps = two.steps + one.steps;
        bound = omega arith;
        reached =
            sym (steps-then j one.steps two.steps)
            ∙ (ap (λ (i : ChosenRun). steps_of_chosen_run g i two.steps) one.reached ∙ two.reached);
      }

  -- ---- until nothing is pending

  either : (most : ℕ) (b : Bool) (k l : ChosenRun) → IsWithin most g k l → IsWithin most g k (cond b k l)
  either most true k l h = none_more most k
  either most false k l h = h

  settles : (fuel : ℕ) (k : ChosenRun) → IsWithin fuel g k (settled_within fuel g k)
  settles zero k = none_more 0 k
  settles (suc fuel) k =
      let next = advance_chosen_run g k in
      let same : 1 + fuel ≡ suc fuel = omega arith in
      either (suc fuel) (is_settled k) k (settled_within fuel g next)
      (subst (λ m. IsWithin m g k (settled_within fuel g next)) same
      (joined 1 fuel k next (settled_within fuel g next) (one_more k) (settles fuel next)))

  -- ---- runs of so many units

  unit_takes : (k : ChosenRun) → IsWithin 1026 g k (settled g (advance_chosen_run g k))
  unit_takes k =
      joined 1 1025 k (advance_chosen_run g k) (settled g (advance_chosen_run g k)) (one_more k)
      (settles 1025 (advance_chosen_run g k))

  -- by how many steps settle what is pending at the beginning
  made_takes : (first : ℕ) (k : ChosenRun) → IsWithin first g k (settled g k) → (n : ℕ)
      → IsWithin (first + most_steps n) g k (chosen_run g k n)
  made_takes first k h zero =
      let same : first ≡ first + most_steps 0 = omega arith in
      subst (λ m. IsWithin m g k (settled g k)) same h
  made_takes first k h (suc n) =
      let more : first + most_steps n + 1026 ≡ first + most_steps (suc n) = omega arith in
      subst (λ m. IsWithin m g k (chosen_run g k (suc n))) more
      (joined (first + most_steps n) 1026 k (chosen_run g k n) (chosen_run g k (suc n)) (made_takes first k h n)
      (unit_takes (chosen_run g k n)))

  pub IsWithin-pending : (k : ChosenRun) (n : ℕ) → IsWithin (most_waited + 1 + most_steps n) g k (chosen_run g k n)
  IsWithin-pending k n = made_takes (most_waited + 1) k (settles (most_waited + 1) k) n

  pub IsWithin-nothing_pending : (k : ChosenRun) (n : ℕ) → k.run.at.pending ≡ None
      → IsWithin (most_steps n) g k (chosen_run g k n)
  IsWithin-nothing_pending k n calm =
      let start =
      subst (IsWithin 0 g k) (sym (stays_settled (most_waited + 1) g k (is_settled-none_pending k calm)))
      (none_more 0 k) in
      let same : 0 + most_steps n ≡ most_steps n = omega arith in
      subst (λ m. IsWithin m g k (chosen_run g k n)) same (made_takes 0 k start n)

  -- ---- one step

  pub advance_chosen_run-Nearer : (k : ChosenRun) → finished k.run.at.last_event ≡ false
      → Nearer k (advance_chosen_run g k)
  advance_chosen_run-Nearer k going =
      subst (Nearer k) (sym (advance_chosen_run-going g k going)) (by k.run.at.pending refl)
    where
      waits : BecomesSettled k.waited (chosen g k.run.at.state k.run.at.pending k.waited k.words k.run.left)
          → Nearer k (stepped_chosen_run g k)
      waits (none e) = Settled e
      waits (over e) = Finished e
      waits (longer adds value bytes e low) = Waiting low (ap (λ (x : ImpreciseEvent). waited_after x k.waited) e)

      by : (p : Option Trap) → k.run.at.pending ≡ p → Nearer k (stepped_chosen_run g k)
      by None e = Used (ap (λ (p : Option Trap). k.run.units + unit_of p) e)
      by (Some t) e =
          waits
          (subst (λ (p : Option Trap). BecomesSettled k.waited (chosen g k.run.at.state p k.waited k.words k.run.left))
          (sym e) (chosen_settles g k.run.at.state t k.waited k.words k.run.left))
