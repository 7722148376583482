-- Runs that coming words make use all their units, or are over before, and nothing is pending at their end.
use Rattle.std.proofs.Common.{◌≡◌, ◌<◌, ◌≤◌, ◌+◌, ◌||◌, ℕ, zero, suc, Bool, true, false, cond, Option, Some, None}
use Rattle.std.proofs.Common.{is_none, refl, sym, ap, subst, ◌∙◌, ⊎_elim, arith, add-one}
use Rattle.std.proofs.lemmas.Bool.{cases_Bool, cases_lt}
use Rattle.alpha_seq.specs.State.{Program}
use Rattle.alpha_seq.specs.Step.{next_class, step}
use Rattle.alpha_imprecise.specs.StepResult.{Trap, ImpreciseEvent}
use Rattle.alpha_imprecise.specs.Step.{triggers, triggered, precisely}
use Rattle.alpha_imprecise.specs.Run.{finished, unit_of}
use Rattle.alpha_imprecise.specs.Used.{HasUsed}
use Rattle.alpha_imprecise.specs.Chosen.{most_waited, draw, chosen, waited_after}
use Rattle.alpha_imprecise.specs.ChosenRun.{ChosenRun, extended_chosen_run, advance_chosen_run, is_settled}
use Rattle.alpha_imprecise.specs.ChosenRun.{settled_within, settled, chosen_run}
use Rattle.alpha_imprecise.proofs.ChosenRuns.{BecomesSettled, none, over, longer, chosen_settles}

-- one step more of a run that isn't over
abbrev pub stepped_chosen_run : Program → ChosenRun → ChosenRun
stepped_chosen_run g k =
    extended_chosen_run k (draw g k.run.at.state k.run.at.pending k.waited k.words)
    (chosen g k.run.at.state k.run.at.pending k.waited k.words k.run.left)

pub advance_chosen_run-going : (g : Program) (k : ChosenRun) → finished k.run.at.last_event ≡ false
    → advance_chosen_run g k ≡ stepped_chosen_run g k
advance_chosen_run-going g k e = ap (λ b. cond b k (stepped_chosen_run g k)) e

pub advance_chosen_run-over : (g : Program) (k : ChosenRun) → finished k.run.at.last_event ≡ true
    → advance_chosen_run g k ≡ k
advance_chosen_run-over g k e = ap (λ b. cond b k (stepped_chosen_run g k)) e

-- what is settled stays
pub stays_settled : (fuel : ℕ) (g : Program) (k : ChosenRun) → is_settled k ≡ true → settled_within fuel g k ≡ k
stays_settled zero g k e = refl
stays_settled (suc fuel) g k e = ap (λ b. cond b k (settled_within fuel g (advance_chosen_run g k))) e

-- settled, with as many units as before
record SettledAt (n : ℕ) (k : ChosenRun) : Type 0 where
  done : is_settled k ≡ true
  units : k.run.units ≡ n

pub is_settled-none_pending : (k : ChosenRun) → k.run.at.pending ≡ None → is_settled k ≡ true
is_settled-none_pending k e = by (finished k.run.at.last_event) (ap is_none e)
  where
    by : (b : Bool) → is_none k.run.at.pending ≡ true → (b || is_none k.run.at.pending) ≡ true
    by true f = refl
    by false f = f

pub is_settled-over : (k : ChosenRun) → finished k.run.at.last_event ≡ true → is_settled k ≡ true
is_settled-over k e = ap (λ b. b || is_none k.run.at.pending) e

-- what isn't settled has a trap pending, and goes on
pub record IsOpen (k : ChosenRun) : Type 0 where
  pub t : Trap
  pub pending : k.run.at.pending ≡ Some t
  pub going : finished k.run.at.last_event ≡ false

pub chosen_run-open : (k : ChosenRun) → is_settled k ≡ false → IsOpen k
chosen_run-open k e = by (finished k.run.at.last_event) (k.run.at.pending) refl refl e
  where
    by : (b : Bool) (p : Option Trap) → finished k.run.at.last_event ≡ b → k.run.at.pending ≡ p
        → (b || is_none p) ≡ false
        → IsOpen k
    by true p f q e = cc
    by false None f q e = cc
    by false (Some t) f q e = record { t = t; pending = q; going = f }

pub is_none-true : (o : Option Trap) → is_none o ≡ true → o ≡ None
is_none-true None e = refl
is_none-true (Some t) e = cc

module _ (g : Program) where
  -- what a step with a trap pending leaves is settled, or one word more has waited
  stepped_units : (k : ChosenRun) → IsOpen k → (stepped_chosen_run g k).run.units ≡ k.run.units
  stepped_units k h =
      ap (λ (p : Option Trap). k.run.units + unit_of p) h.pending
      ∙ (let same : k.run.units + 0 ≡ k.run.units = omega arith in same)

  stepped_settles : (k : ChosenRun) → IsOpen k
      → BecomesSettled k.waited (chosen g k.run.at.state k.run.at.pending k.waited k.words k.run.left)
  stepped_settles k h =
      subst (λ (p : Option Trap). BecomesSettled k.waited (chosen g k.run.at.state p k.waited k.words k.run.left))
      (sym h.pending) (chosen_settles g k.run.at.state h.t k.waited k.words k.run.left)

  already : (fuel n : ℕ) (k : ChosenRun) → is_settled k ≡ true → k.run.units ≡ n → SettledAt n (settled_within fuel g k)
  already fuel n k e units =
      subst (λ (l : ChosenRun). SettledAt n l) (sym (stays_settled fuel g k e)) (record { done = e; units = units })

  one_more : (fuel : ℕ) (k : ChosenRun) → IsOpen k → most_waited < k.waited + suc fuel
      → ((stepped_chosen_run g k).waited ≤ most_waited → most_waited < (stepped_chosen_run g k).waited + fuel
      → SettledAt (stepped_chosen_run g k).run.units (settled_within fuel g (stepped_chosen_run g k)))
      → SettledAt k.run.units (settled_within fuel g (stepped_chosen_run g k))
  one_more fuel k h more rest = by (stepped_settles k h)
    where
      by : BecomesSettled k.waited (chosen g k.run.at.state k.run.at.pending k.waited k.words k.run.left)
          → SettledAt k.run.units (settled_within fuel g (stepped_chosen_run g k))
      by (none e) =
          already fuel k.run.units (stepped_chosen_run g k) (is_settled-none_pending (stepped_chosen_run g k) e)
          (stepped_units k h)
      by (over e) =
          already fuel k.run.units (stepped_chosen_run g k) (is_settled-over (stepped_chosen_run g k) e)
          (stepped_units k h)
      by (longer adds value bytes e low) =
          let count : (stepped_chosen_run g k).waited ≡ k.waited + 1 =
          ap (λ (x : ImpreciseEvent). waited_after x k.waited) e in
          subst (λ n. SettledAt n (settled_within fuel g (stepped_chosen_run g k))) (stepped_units k h)
          (rest (omega arith) (omega arith))

  -- so much fuel is enough
  enough : (fuel : ℕ) (k : ChosenRun) → k.waited ≤ most_waited → most_waited < k.waited + fuel
      → SettledAt k.run.units (settled_within fuel g k)
  enough zero k low more = absurd (omega arith)
  enough (suc fuel) k low more =
      ⊎_elim
      (λ (e : is_settled k ≡ true). already (suc fuel) k.run.units k e refl)
      (λ (e : is_settled k ≡ false).
      let h = chosen_run-open k e in
      let step = advance_chosen_run-going g k h.going in
      subst (λ (l : ChosenRun). SettledAt k.run.units l)
      (sym (ap (λ b. cond b k (settled_within fuel g (advance_chosen_run g k))) e))
      (subst (λ (l : ChosenRun). SettledAt k.run.units (settled_within fuel g l)) (sym step)
      (one_more fuel k h more
      (subst (λ (l : ChosenRun). l.waited ≤ most_waited → most_waited < l.waited + fuel
      → SettledAt l.run.units (settled_within fuel g l))
      step (enough fuel (advance_chosen_run g k))))))
      (cases_Bool (is_settled k))

  -- ---- runs of so many units

  -- a step with nothing pending begins to count
  pub fresh : (k : ChosenRun) → k.run.at.pending ≡ None → (stepped_chosen_run g k).waited ≡ 0
  fresh k e =
      ap (λ (p : Option Trap). waited_after (chosen g k.run.at.state p k.waited k.words k.run.left).last_event k.waited)
      e
      ∙ by (triggers (next_class g k.run.at.state.pc) k.run.at.state)
    where
      by : (b : Bool) → waited_after (cond b (triggered g (next_class g k.run.at.state.pc) k.run.at.state
          (draw g k.run.at.state None k.waited k.words).choice)
          (precisely (step g (next_class g k.run.at.state.pc) k.run.at.state k.run.left))).last_event k.waited ≡ 0
      by true = refl
      by false = refl

  made_start : (k : ChosenRun) → k.run.at.pending ≡ None → k.run.units ≡ 0
      → HasUsed 0 (chosen_run g k 0).run.units (chosen_run g k 0).run.at
  made_start k e units =
      let a = already (most_waited + 1) 0 k (is_settled-none_pending k e) units in
      record { settled = a.done; most = (let n = a.units in omega arith); full = λ going. a.units }

  made_more : (n : ℕ) (k : ChosenRun) → HasUsed n k.run.units k.run.at
      → HasUsed (suc n) (settled g (advance_chosen_run g k)).run.units (settled g (advance_chosen_run g k)).run.at
  made_more n k h = by (finished k.run.at.last_event) refl
    where
      by : (b : Bool) → finished k.run.at.last_event ≡ b
          → HasUsed (suc n) (settled g (advance_chosen_run g k)).run.units (settled g (advance_chosen_run g k)).run.at
      by true e =
          subst (λ (l : ChosenRun). HasUsed (suc n) (settled g l).run.units (settled g l).run.at)
          (sym (advance_chosen_run-over g k e))
          (subst (λ (l : ChosenRun). HasUsed (suc n) l.run.units l.run.at)
          (sym (stays_settled (most_waited + 1) g k h.settled))
          (record {
            settled = h.settled;
            most = (let m = h.most in omega arith);
            full = λ going. let f = sym going ∙ e in cc;
          }))
      by false e =
          let pending : k.run.at.pending ≡ None =
          is_none-true k.run.at.pending (ap (λ b. b || is_none k.run.at.pending) (sym e) ∙ h.settled) in
          let new = fresh k pending in
          let units : (stepped_chosen_run g k).run.units ≡ suc n =
          ap (λ (p : Option Trap). k.run.units + unit_of p) pending
          ∙ (add-one k.run.units ∙ ap (λ m. suc m) (h.full e)) in
          let a = enough (most_waited + 1) (stepped_chosen_run g k) (omega arith) (omega arith) in
          subst (λ (l : ChosenRun). HasUsed (suc n) (settled g l).run.units (settled g l).run.at)
          (sym (advance_chosen_run-going g k e))
          (record { settled = a.done; most = (let m = a.units in omega arith); full = λ going. a.units ∙ units })

  made_on : (k : ChosenRun) (n : ℕ) → HasUsed 0 (chosen_run g k 0).run.units (chosen_run g k 0).run.at
      → HasUsed n (chosen_run g k n).run.units (chosen_run g k n).run.at
  made_on k zero start = start
  made_on k (suc n) start = made_more n (chosen_run g k n) (made_on k n start)

  pub made_is : (k : ChosenRun) (n : ℕ) → k.run.at.pending ≡ None → k.run.units ≡ 0
      → HasUsed n (chosen_run g k n).run.units (chosen_run g k n).run.at
  made_is k n e units = made_on k n (made_start k e units)

  -- also where a trap is pending, which has waited for no more words than it may
  pub made_from : (k : ChosenRun) (n : ℕ) → k.waited ≤ most_waited → k.run.units ≡ 0
      → HasUsed n (chosen_run g k n).run.units (chosen_run g k n).run.at
  made_from k n low units =
      let a = enough (most_waited + 1) k low (omega arith) in
      let used : k.run.units ≡ 0 = units in
      made_on k n (record { settled = a.done; most = (let m = a.units in omega arith); full = λ going. a.units ∙ used })

  -- and where it has waited for more, it is reported at once
  at_once : (fuel : ℕ) (k : ChosenRun) → most_waited < k.waited → SettledAt k.run.units (settled_within (suc fuel) g k)
  at_once fuel k late =
      ⊎_elim
      (λ (e : is_settled k ≡ true). already (suc fuel) k.run.units k e refl)
      (λ (e : is_settled k ≡ false).
      let h = chosen_run-open k e in
      subst (λ (l : ChosenRun). SettledAt k.run.units l)
      (sym (ap (λ b. cond b k (settled_within fuel g (advance_chosen_run g k))) e
      ∙ ap (settled_within fuel g) (advance_chosen_run-going g k h.going)))
      (by h (stepped_settles k h)))
      (cases_Bool (is_settled k))
    where
      by : IsOpen k → BecomesSettled k.waited (chosen g k.run.at.state k.run.at.pending k.waited k.words k.run.left)
          → SettledAt k.run.units (settled_within fuel g (stepped_chosen_run g k))
      by h (none e) =
          already fuel k.run.units (stepped_chosen_run g k) (is_settled-none_pending (stepped_chosen_run g k) e)
          (stepped_units k h)
      by h (over e) =
          already fuel k.run.units (stepped_chosen_run g k) (is_settled-over (stepped_chosen_run g k) e)
          (stepped_units k h)
      by h (longer adds value bytes e low) = absurd (omega (arith, late, low))

  pub made_any : (k : ChosenRun) (n : ℕ) → k.run.units ≡ 0
      → HasUsed n (chosen_run g k n).run.units (chosen_run g k n).run.at
  made_any k n units =
      ⊎_elim
      (λ (late : most_waited < k.waited).
      let a = at_once most_waited k late in
      let used : k.run.units ≡ 0 = units in
      made_on k n
      (record { settled = a.done; most = (let m = a.units in omega arith); full = λ going. a.units ∙ used }))
      (λ (low : k.waited ≤ most_waited). made_from k n low units)
      (cases_lt most_waited k.waited)
