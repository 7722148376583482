-- A run by coming words draws a word at least for each overflow that it logs: each trigger draws one, and is logged
-- once.
use Rattle.std.proofs.Common.{◌≡◌, ◌≤◌, ◌+◌, ◌||◌, not, ℕ, zero, suc, Bool, true, false, cond, List, Option, Some, None}
use Rattle.std.proofs.Common.{refl, arith}
use Rattle.alpha_words.specs.declared.PalCall.{PalCall}
use Rattle.alpha_table.specs.declared.columns.MemAccess.{MemAccess}
use Rattle.alpha_table.specs.Class.{Class, operate, trigger, address, load, store, load_locked, store_conditional}
use Rattle.alpha_table.specs.Class.{branch, jump, barrier, idle}
use Rattle.alpha_mem.specs.declared.access.MemFault.{MemFault}
use Rattle.alpha_pal.specs.Call.{Called, continues, exits, signals}
use Rattle.alpha_values.specs.TrapOp.{stops}
use Rattle.alpha_seq.specs.declared.end.End.TheVariants.{Overflow}
use Rattle.alpha_seq.specs.State.{Program, State, Ends}
use Rattle.alpha_seq.specs.Step.{next_class, step, unless, conditional, returned, lock_block, matches}
use Rattle.alpha_trap.specs.Scan.{scan}
use Rattle.alpha_imprecise.specs.StepResult.{Trap, Choice, Precisely, Reported, StepResult, step_result}
use Rattle.alpha_imprecise.specs.Step.{triggers, triggered, precisely, completed, landed, report, address_at, can_wait}
use Rattle.alpha_imprecise.specs.Step.{unpredictable_state, unpredictable_conditional, waited, imprecise_step_at}
use Rattle.alpha_imprecise.proofs.ReportLandings.{report_at}
use Rattle.alpha_imprecise.specs.Run.{finished}
use Rattle.alpha_imprecise.specs.Chosen.{most_waited, first_word, triggering, reporting, draw_at, draw, chosen}
use Rattle.alpha_imprecise.specs.ChosenRun.{ChosenRun, begun, advance_chosen_run, is_settled, settled_within}
use Rattle.alpha_imprecise.specs.ChosenRun.{chosen_run}
use Rattle.alpha_imprecise.proofs.PendingTraps.{stepped_chosen_run}

-- one for a trap that is pending
abbrev pending_draws : Option Trap → ℕ
pending_draws None = 0
pending_draws (Some t) = 1

-- the overflows that were logged, and one that will be
abbrev overflow_draws : StepResult → ℕ
overflow_draws m = m.state.count + pending_draws m.pending

-- ---- a precise step that doesn't overflow logs nothing

same_unless : (fault : Option MemFault) (addr : ℕ) (s after : State) → after.count ≡ s.count
    → (unless fault addr s after).state.count ≡ s.count
same_unless None addr s after e = e
same_unless (Some fault) addr s after e = refl

same_conditional : (b : Bool) (at : MemAccess) (ra : ℕ) (s : State) → (conditional b at ra s).count ≡ s.count
same_conditional true at ra s = refl
same_conditional false at ra s = refl

same_returned : (function : PalCall) (c : Called) (s : State) → (returned function c s).state.count ≡ s.count
same_returned function (continues regs mem unique traffic) s = refl
same_returned function (exits v) s = refl
same_returned function (signals code) s = refl

same_count : (g : Program) (o : Option Class) (s : State) (input : List ℕ) → triggers o s ≡ false
    → (step g o s input).state.count ≡ s.count
same_count g None s input e = refl
same_count g (Some (operate op ra src rc)) s input e = refl
same_count g (Some (trigger op ra src rc)) s input e = rw e refl
same_count g (Some (address op ra rb disp)) s input e = refl
same_count g (Some (load extension at ra)) s input e = same_unless _ _ s _ refl
same_count g (Some (store at ra)) s input e = same_unless _ _ s _ refl
same_count g (Some (load_locked extension at ra)) s input e = same_unless _ _ s _ refl
same_count g (Some (store_conditional at ra)) s input e =
    same_unless _ _ s _ (same_conditional (matches s.lock (lock_block at s)) at ra s)
same_count g (Some (branch None ra disp)) s input e = refl
same_count g (Some (branch (Some condition) ra disp)) s input e = refl
same_count g (Some (jump ra rb)) s input e = refl
same_count g (Some (barrier None)) s input e = refl
same_count g (Some (barrier (Some function))) s input e = same_returned function _ s
same_count g (Some idle) s input e = refl

free_total : (g : Program) (o : Option Class) (s : State) (n : ℕ) (words input : List ℕ)
    → overflow_draws (imprecise_step_at g o s None (draw_at o s None n words).choice input)
    ≤ s.count + (draw_at o s None n words).count
free_total g o s n words input = by (triggers o s) refl
  where
    by : (b : Bool) → triggers o s ≡ b
        → overflow_draws (cond b (triggered g o s (draw_at o s None n words).choice) (precisely (step g o s input)))
        ≤ s.count + (cond b (triggering (first_word words)) (reporting 0)).count
    by true e = omega arith
    by false e = let same = same_count g o s input e in omega arith

-- ---- a step with a trap pending

landed_total : (g : Program) (s : State) (at : ℕ) → overflow_draws (landed g s at) ≤ s.count + 1
landed_total g s at = by (stops g.completion)
  where
    by : (b : Bool) → overflow_draws (cond b (step_result (record s { pc = address_at g.image at }) None
        (Precisely (Ends (Overflow (address_at g.image at)))))
        (step_result (completed g s at) None (Reported (address_at g.image at)))) ≤ s.count + 1
    by true = omega arith
    by false = omega arith

report_total : (g : Program) (s : State) (t : Trap) → overflow_draws (report g s t) ≤ s.count + 1
report_total g s t = by (scan g.image s.pc t.mask)
  where
    by : (o : Option ℕ) → overflow_draws (report_at g s t o) ≤ s.count + 1
    by None = omega arith
    by (Some at) = landed_total g s at

spoilt_count : (o : Option Class) (s : State) (c : Choice) → (unpredictable_state o s c).count ≡ s.count
spoilt_count None s c = refl
spoilt_count (Some (operate op ra src rc)) s c = refl
spoilt_count (Some (trigger op ra src rc)) s c = refl
spoilt_count (Some (address op ra rb disp)) s c = refl
spoilt_count (Some (load extension at ra)) s c = refl
spoilt_count (Some (store at ra)) s c = refl
spoilt_count (Some (load_locked extension at ra)) s c = refl
spoilt_count (Some (store_conditional at ra)) s c = by (matches s.lock (lock_block at s))
  where
    by : (b : Bool) → (unpredictable_conditional b at ra s c).count ≡ s.count
    by true = refl
    by false = refl
spoilt_count (Some (branch (Some condition) ra disp)) s c = refl
spoilt_count o s c = refl

trap_total : (g : Program) (o : Option Class) (s : State) (t : Trap) (c : Choice) (input : List ℕ)
    → overflow_draws (imprecise_step_at g o s (Some t) c input) ≤ s.count + 1
trap_total g o s t c input = by (c.report || not (can_wait o s))
  where
    by : (b : Bool) → overflow_draws (cond b (report g s t) (waited o s t c)) ≤ s.count + 1
    by true = report_total g s t
    by false = let same = spoilt_count o s c in omega arith

-- ---- runs

chosen_total : (g : Program) (s : State) (pending : Option Trap) (n : ℕ) (words input : List ℕ)
    → overflow_draws (chosen g s pending n words input)
    ≤ s.count + pending_draws pending + (draw g s pending n words).count
chosen_total g s None n words input = let one = free_total g (next_class g s.pc) s n words input in omega arith
chosen_total g s (Some t) n words input =
    let one = trap_total g (next_class g s.pc) s t (draw g s (Some t) n words).choice input in omega arith

-- a run has drawn a word for each overflow beyond so many
abbrev HasDrawnForEach : ℕ → ChosenRun → Type 0
HasDrawnForEach first k = k.run.at.state.count + pending_draws k.run.at.pending ≤ first + k.count

HasDrawnForEach-cond : (first : ℕ) (b : Bool) (k l : ChosenRun) → HasDrawnForEach first k → HasDrawnForEach first l
    → HasDrawnForEach first (cond b k l)
HasDrawnForEach-cond first true k l p q = p
HasDrawnForEach-cond first false k l p q = q

module _ (g : Program) (first : ℕ) where
  step_pays : (k : ChosenRun) → HasDrawnForEach first k → HasDrawnForEach first (advance_chosen_run g k)
  step_pays k h =
      let more = chosen_total g k.run.at.state k.run.at.pending k.waited k.words k.run.left in
      HasDrawnForEach-cond first (finished k.run.at.last_event) k (stepped_chosen_run g k) h (omega arith)

  settling_pays : (fuel : ℕ) (k : ChosenRun) → HasDrawnForEach first k → HasDrawnForEach first (settled_within fuel g k)
  settling_pays zero k h = h
  settling_pays (suc fuel) k h =
      HasDrawnForEach-cond first (is_settled k) k (settled_within fuel g (advance_chosen_run g k)) h
      (settling_pays fuel (advance_chosen_run g k) (step_pays k h))

  run_pays : (k : ChosenRun) (n : ℕ) → HasDrawnForEach first k → HasDrawnForEach first (chosen_run g k n)
  run_pays k zero h = settling_pays (most_waited + 1) k h
  run_pays k (suc n) h =
      settling_pays (most_waited + 1) (advance_chosen_run g (chosen_run g k n))
      (step_pays (chosen_run g k n) (run_pays k n h))

-- a run with nothing pending at the beginning logs an overflow at most for each word that it draws
pub log_count-at_most_overflows : (g : Program) (s : State) (input words : List ℕ) (n : ℕ)
    → (chosen_run g (begun s input None 0 words) n).run.at.state.count
    ≤ s.count + (chosen_run g (begun s input None 0 words) n).count
log_count-at_most_overflows g s input words n =
    let h = run_pays g s.count (begun s input None 0 words) n (omega arith) in
    omega arith
