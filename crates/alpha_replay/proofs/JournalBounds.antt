-- A run that has a journal stops, within its units, and has drawn no more words than these.
use Rattle.std.proofs.Common.{◌≡◌, ◌<◌, ◌≤◌, ◌+◌, ◌==◌, ◌&&◌, ◌||◌, not, ℕ, zero, suc, Bool, true, false, cond, List}
use Rattle.std.proofs.Common.{Option, Some, None, is_none, refl, sym, ap, subst, ◌∙◌, ⊎_elim, arith}
use Rattle.std.proofs.lemmas.Bool.{eq-eqb}
use Rattle.std.proofs.Math.Nat.{eq-or-lt_of_le}
use Rattle.alpha_seq.specs.State.{Program, State}
use Rattle.alpha_imprecise.specs.StepResult.{Trap}
use Rattle.alpha_imprecise.specs.Run.{finished, imprecise_start, unit_of}
use Rattle.alpha_imprecise.specs.Used.{HasUsed}
use Rattle.alpha_imprecise.specs.ChosenRun.{ChosenRun, begun, advance_chosen_run, steps_of_chosen_run, most_words}
use Rattle.alpha_imprecise.proofs.WordDraws.{draws_most}
use Rattle.alpha_imprecise.proofs.DrawnRuns.{IsMade, steps-chosen_run, begun-chosen_run}
use Rattle.alpha_imprecise.proofs.StepBounds.{IsWithin-nothing_pending}
use Rattle.alpha_imprecise.proofs.PendingTraps.{advance_chosen_run-going, made_is}
use Rattle.alpha_replay.specs.Journaled.{journal_at, is_within, has_stopped, steps_journaled, IsJournaled}
use Rattle.alpha_replay.proofs.JournaledRuns.{going_of, steps_run}
use Rattle.alpha_replay.proofs.LongerRuns.{next_journaled}

-- ---- where the run of all units is, the run with its journal has stopped

pub stop_by : (w f c e : Bool) → (f || c) ≡ true → (f ≡ false → e ≡ true) → (not w || (f || (c && e))) ≡ true
stop_by false f c e h k = refl
stop_by true true c e h k = refl
stop_by true false true e h k = k refl
stop_by true false false e h k = cc

used_stops : (n : ℕ) (g : Program) (k : ChosenRun) → HasUsed n k.run.units k.run.at
    → has_stopped n g.completion k ≡ true
used_stops n g k used =
    stop_by (is_within (journal_at g.completion k)) (finished k.run.at.last_event) (is_none k.run.at.pending)
    (k.run.units == n) used.settled
    (λ going. eq-eqb k.run.units n (used.full going))

-- where nothing is pending and some units are left
pub or_false-last : (a b c : Bool) → (a || (b || c)) ≡ false → c ≡ false
or_false-last false false c e = e
or_false-last false true c e = cc
or_false-last true b c e = absurd cc

pub units-room : (n : ℕ) (p : Option Trap) (units : ℕ) → (is_none p && (units == n)) ≡ false → units ≤ n
    → units + unit_of p ≤ n
units-room n None units e low =
    ⊎_elim
    (λ (same : units ≡ n). absurd (let no : true ≡ false = sym (eq-eqb units n same) ∙ e in cc))
    (λ (below : units < n). omega (arith, below))
    (eq-or-lt_of_le low)
units-room n (Some t) units e low = omega (arith, low)

module _ (n : ℕ) (g : Program) (from : ChosenRun) where
  -- until it stops it makes the steps of the run
  open_steps : (m : ℕ) → has_stopped n g.completion (steps_journaled n g from m) ≡ false
      → steps_journaled n g from m ≡ steps_of_chosen_run g from m
  open_steps zero e = refl
  open_steps (suc m) e = by (λ h. open_steps m h) (has_stopped n g.completion (steps_journaled n g from m)) refl
    where
      by : (has_stopped n g.completion (steps_journaled n g from m) ≡ false
          → steps_journaled n g from m ≡ steps_of_chosen_run g from m)
          → (b : Bool) → has_stopped n g.completion (steps_journaled n g from m) ≡ b
          → steps_journaled n g from (suc m) ≡ steps_of_chosen_run g from (suc m)
      by before true stopped =
          let stays : steps_journaled n g from (suc m) ≡ steps_journaled n g from m =
          ap (λ (b : Bool). cond b (steps_journaled n g from m) (advance_chosen_run g (steps_journaled n g from m)))
          stopped in
          absurd (let no : true ≡ false = sym stopped ∙ (ap (has_stopped n g.completion) (sym stays) ∙ e) in cc)
      by before false going = next_journaled n g from m going ∙ ap (advance_chosen_run g) (before going)

  IsJournaled-within_used : (m : ℕ)
      → HasUsed n (steps_of_chosen_run g from m).run.units (steps_of_chosen_run g from m).run.at
      → (k : ChosenRun) × IsJournaled n g from k
  IsJournaled-within_used m used = by (has_stopped n g.completion (steps_journaled n g from m)) refl
    where
      by : (b : Bool) → has_stopped n g.completion (steps_journaled n g from m) ≡ b
          → (k : ChosenRun) × IsJournaled n g from k
      by true stopped = (steps_journaled n g from m, record { steps = m; reached = refl; stopped = stopped })
      by false going =
          let there = subst (λ (k : ChosenRun). HasUsed n k.run.units k.run.at) (sym (open_steps m going)) used in
          absurd (let no : true ≡ false = sym (used_stops n g (steps_journaled n g from m) there) ∙ going in cc)

  -- ---- it uses no more than its units

  units_most : (m : ℕ) → from.run.units ≤ n → (steps_journaled n g from m).run.units ≤ n
  units_most zero low = low
  units_most (suc m) low = by (units_most m low) (has_stopped n g.completion (steps_journaled n g from m)) refl
    where
      by : (steps_journaled n g from m).run.units ≤ n → (b : Bool)
          → has_stopped n g.completion (steps_journaled n g from m) ≡ b
          → (steps_journaled n g from (suc m)).run.units ≤ n
      by before true stopped =
          subst (λ (k : ChosenRun). k.run.units ≤ n) (sym (ap (λ (b : Bool).
          cond b (steps_journaled n g from m) (advance_chosen_run g (steps_journaled n g from m))) stopped)) before
      by before false going =
          let k = steps_journaled n g from m in
          let goes : finished k.run.at.last_event ≡ false = going_of _ _ _ going in
          let more : (steps_journaled n g from (suc m)).run.units ≡ k.run.units + unit_of k.run.at.pending =
          ap (λ (j : ChosenRun). j.run.units) (next_journaled n g from m going ∙ advance_chosen_run-going g k goes) in
          subst (λ (u : ℕ). u ≤ n) (sym more)
          (units-room n k.run.at.pending k.run.units (or_false-last _ _ _ going) before)

-- ---- from a state with nothing pending

-- there is a place where the run stops
pub IsJournaled-exists : (n : ℕ) (g : Program) (s : State) (input words : List ℕ)
    → (k : ChosenRun) × IsJournaled n g (begun s input None 0 words) k
IsJournaled-exists n g s input words =
    let from = begun s input None 0 words in
    let within = IsWithin-nothing_pending g from n refl in
    IsJournaled-within_used n g from within.steps
    (subst (λ (k : ChosenRun). HasUsed n k.run.units k.run.at) (sym within.reached) (made_is g from n refl refl))

-- on its way there it has used no more than its units, and has drawn no more words than these
pub steps_journaled-bounds : (n : ℕ) (g : Program) (s : State) (input words : List ℕ) (m : ℕ)
    → ((steps_journaled n g (begun s input None 0 words) m).run.units ≤ n)
    × ((steps_journaled n g (begun s input None 0 words) m).count ≤ most_words n)
steps_journaled-bounds n g s input words m =
    let from = begun s input None 0 words in
    let k = steps_journaled n g from m in
    let units : k.run.units ≤ n = units_most n g from m (omega arith) in
    let run = steps_run n g from m in
    let is = subst (IsMade g (imprecise_start s) input words 0) (sym run.1)
    (steps-chosen_run g (imprecise_start s) input words 0 from run.0 (begun-chosen_run g s input words None 0)) in
    let draws = draws_most g k.run.steps (imprecise_start s) k.run.at 0 words k.words refl is.runs is.draws in
    (units, omega (arith, draws, is.count, is.used, units))

pub IsJournaled-bounds : (n : ℕ) (g : Program) (s : State) (input words : List ℕ) (k : ChosenRun)
    → IsJournaled n g (begun s input None 0 words) k → (k.run.units ≤ n) × (k.count ≤ most_words n)
IsJournaled-bounds n g s input words k is =
    subst (λ (j : ChosenRun). (j.run.units ≤ n) × (j.count ≤ most_words n)) is.reached
    (steps_journaled-bounds n g s input words is.steps)
