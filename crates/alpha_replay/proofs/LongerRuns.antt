-- A run that has a journal goes on to where it stops.
use Rattle.std.proofs.Common.{◌≡◌, ◌<◌, ◌≤◌, ℕ, zero, suc, Bool, true, false, cond, [], sym, ap, subst, ◌∙◌, ⊎_elim}
use Rattle.std.proofs.Common.{append-nil, arith}
use Rattle.std.proofs.lemmas.Bool.{cases_lt}
use Rattle.std.proofs.Math.Nat.{eq-or-lt_of_le}
use Rattle.alpha_seq.specs.State.{Program}
use Rattle.alpha_imprecise.specs.ChosenRun.{ChosenRun, advance_chosen_run}
use Rattle.alpha_run.proofs.ImpreciseShown.{Begins, Begins-trans, Begins-advance_chosen_run}
use Rattle.alpha_replay.specs.Journaled.{has_stopped, advance_journaled, steps_journaled, IsJournaled}
use Rattle.alpha_replay.proofs.JournaledRuns.{stays_stopped}

begins_same : (k : ChosenRun) → Begins k k
begins_same k = ([], sym (append-nil k.run.steps))

module _ (n : ℕ) (g : Program) (from : ChosenRun) where
  one_more : (k : ChosenRun) → Begins k (advance_journaled n g k)
  one_more k = by (has_stopped n g.completion k)
    where
      by : (b : Bool) → Begins k (cond b k (advance_chosen_run g k))
      by true = begins_same k
      by false = Begins-advance_chosen_run g k

  steps_begin : (a b : ℕ) → a ≤ b → Begins (steps_journaled n g from a) (steps_journaled n g from b)
  steps_begin a zero low =
      let same : a ≡ 0 = omega (arith, low) in
      subst (λ (j : ℕ). Begins (steps_journaled n g from j) from) (sym same) (begins_same from)
  steps_begin a (suc b) low =
      ⊎_elim
      (λ (same : a ≡ suc b). subst (λ (j : ℕ). Begins (steps_journaled n g from j) (steps_journaled n g from (suc b)))
      (sym same) (begins_same (steps_journaled n g from (suc b))))
      (λ (below : a < suc b).
      Begins-trans (steps_journaled n g from a) (steps_journaled n g from b) (steps_journaled n g from (suc b))
      (steps_begin a b (omega (arith, below))) (one_more (steps_journaled n g from b)))
      (eq-or-lt_of_le low)

  pub next_journaled : (m : ℕ) → has_stopped n g.completion (steps_journaled n g from m) ≡ false
      → steps_journaled n g from (suc m) ≡ advance_chosen_run g (steps_journaled n g from m)
  next_journaled m going =
      ap (λ (b : Bool). cond b (steps_journaled n g from m) (advance_chosen_run g (steps_journaled n g from m))) going

  pub goes_past : (m : ℕ) (k : ChosenRun) → has_stopped n g.completion (steps_journaled n g from m) ≡ false
      → IsJournaled n g from k
      → Begins (advance_chosen_run g (steps_journaled n g from m)) k
  goes_past m k going is =
      ⊎_elim
      (λ (below : m < is.steps).
      subst (λ (j : ChosenRun). Begins j k) (next_journaled m going)
      (subst (λ (l : ChosenRun). Begins (steps_journaled n g from (suc m)) l) is.reached
      (steps_begin (suc m) is.steps (omega (arith, below)))))
      (λ (low : is.steps ≤ m).
      let stopped : has_stopped n g.completion (steps_journaled n g from is.steps) ≡ true =
      ap (has_stopped n g.completion) is.reached ∙ is.stopped in
      absurd (let no : false ≡ true =
      sym going ∙ (ap (has_stopped n g.completion) (stays_stopped n g from is.steps m low stopped) ∙ stopped) in cc))
      (cases_lt m is.steps)
