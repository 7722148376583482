-- Runs that coming words make: what each step keeps holds of them, and a pending trap is settled in time.
use Rattle.std.proofs.Common.{◌≡◌, ◌<◌, ◌+◌, ◌%◌, not, ℕ, zero, suc, Bool, true, false, cond, leb, eqb, List, drop}
use Rattle.std.proofs.Common.{Option, Some, None, refl}
use Rattle.std.proofs.lemmas.Bool.{leb-false, or_parts}
use Rattle.alpha_seq.specs.declared.end.End.TheVariants.{Overflow}
use Rattle.alpha_seq.specs.State.{Program, State, Ends}
use Rattle.alpha_seq.specs.Step.{next_class}
use Rattle.alpha_trap.specs.Scan.{scan}
use Rattle.alpha_values.specs.TrapOp.{stops}
use Rattle.alpha_imprecise.specs.StepResult.{Trap, Precisely, Waited, Reported, StepResult, step_result}
use Rattle.alpha_imprecise.specs.Step.{completed, landed, report, can_wait, waited, address_at, imprecise_step_at}
use Rattle.alpha_imprecise.proofs.ReportLandings.{report_at}
use Rattle.alpha_imprecise.specs.Run.{finished}
use Rattle.alpha_imprecise.specs.Chosen.{most_waited, first_word, reporting, executing, must_report, chosen}
use Rattle.alpha_imprecise.specs.ChosenRun.{ChosenRun, advance_chosen_run, is_settled, settled_within, chosen_run}

-- ---- what each step of a run keeps

module _ (g : Program) (P : ChosenRun → Type 0) (more : (k : ChosenRun) → P k → P (advance_chosen_run g k)) where
  either : (b : Bool) (k l : ChosenRun) → P k → P l → P (cond b k l)
  either true k l p q = p
  either false k l p q = q

  within-keeps : (fuel : ℕ) (k : ChosenRun) → P k → P (settled_within fuel g k)
  within-keeps zero k h = h
  within-keeps (suc fuel) k h =
      either (is_settled k) k (settled_within fuel g (advance_chosen_run g k)) h
      (within-keeps fuel (advance_chosen_run g k) (more k h))

  pub chosen_run-keeps : (k : ChosenRun) (n : ℕ) → P k → P (chosen_run g k n)
  chosen_run-keeps k zero h = within-keeps (most_waited + 1) k h
  chosen_run-keeps k (suc n) h =
      within-keeps (most_waited + 1) (advance_chosen_run g (chosen_run g k n))
      (more (chosen_run g k n) (chosen_run-keeps k n h))

-- ---- a pending trap is settled in time

-- behind a step with a trap pending: nothing is pending, or the run is over, or the word was executed and fewer words
-- than the most had been before
pub data BecomesSettled (waited : ℕ) (m : StepResult) : Type 0 where
  none : m.pending ≡ None → BecomesSettled waited m
  over : finished m.last_event ≡ true → BecomesSettled waited m
  longer : (adds : Bool) (value bytes : ℕ) → m.last_event ≡ Waited adds value bytes → waited < most_waited
      → BecomesSettled waited m

landed_settles : (g : Program) (s : State) (n at : ℕ) → BecomesSettled n (landed g s at)
landed_settles g s n at = by (stops g.completion)
  where
    by : (b : Bool) → BecomesSettled n (cond b (step_result (record s { pc = address_at g.image at }) None
        (Precisely (Ends (Overflow (address_at g.image at)))))
        (step_result (completed g s at) None (Reported (address_at g.image at))))
    by true = none refl
    by false = none refl

report_settles : (g : Program) (s : State) (t : Trap) (n : ℕ) → BecomesSettled n (report g s t)
report_settles g s t n = by (scan g.image s.pc t.mask)
  where
    by : (o : Option ℕ) → BecomesSettled n (report_at g s t o)
    by None = over refl
    by (Some at) = landed_settles g s n at

pub chosen_settles : (g : Program) (s : State) (t : Trap) (n : ℕ) (words input : List ℕ)
    → BecomesSettled n (chosen g s (Some t) n words input)
chosen_settles g s t n words input = by (must_report (next_class g s.pc) s n) refl
  where
    stays : (c value : ℕ) → must_report (next_class g s.pc) s n ≡ false
        → (b : Bool) → not (can_wait (next_class g s.pc) s) ≡ b
        → BecomesSettled n (cond b (report g s t) (waited (next_class g s.pc) s t (executing c value).choice))
    stays c value e true f = report_settles g s t n
    stays c value e false f =
        longer _ _ _ refl
        (leb-false most_waited n (or_parts (not (can_wait (next_class g s.pc) s)) (leb most_waited n) e).1)

    words_by : must_report (next_class g s.pc) s n ≡ false → (b : Bool)
        → BecomesSettled n
        (imprecise_step_at g (next_class g s.pc) s (Some t)
        (cond b (reporting 1) (executing (first_word words) (first_word (drop 1 words)))).choice input)
    words_by e true = report_settles g s t n
    words_by e false =
        stays (first_word words) (first_word (drop 1 words)) e (not (can_wait (next_class g s.pc) s)) refl

    by : (b : Bool) → must_report (next_class g s.pc) s n ≡ b
        → BecomesSettled n
        (imprecise_step_at g (next_class g s.pc) s (Some t) (cond b (reporting 0) (cond (eqb (first_word words % 4) 0)
        (reporting 1) (executing (first_word words) (first_word (drop 1 words))))).choice input)
    by true e = report_settles g s t n
    by false e = words_by e (eqb (first_word words % 4) 0)
