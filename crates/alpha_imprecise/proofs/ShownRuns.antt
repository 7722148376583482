-- A run of a program that can be restarted shows what the sequential run over the same input shows.
use Rattle.std.proofs.Common.{◌≡◌, ◌≢◌, ◌||◌, ℕ, Bool, true, false, List, length, None, is_none, refl, sym, ap, subst}
use Rattle.std.proofs.Common.{◌∙◌, ⊎_elim, arith}
use Rattle.std.proofs.lemmas.Bool.{cases_Bool}
use Rattle.alpha_image.specs.Parts.{Parts}
use Rattle.alpha_seq.specs.State.{Program, State, Event, Went, Barriered, Overflowed, Ends, Stepped}
use Rattle.alpha_seq.specs.Start.{start}
use Rattle.alpha_seq.specs.Run.{Run, begins, after, is_over, end_of, output, notes, shown, Runs}
use Rattle.alpha_seq.specs.Fronts.{HasMade}
use Rattle.alpha_seq.proofs.RunsOverInput.{after-over}
use Rattle.alpha_seq.proofs.RunSequence.{fed-after}
use Rattle.alpha_imprecise.specs.StepResult.{ImpreciseEvent, Precisely, Triggered, Waited, Reported, Lost, StepResult}
use Rattle.alpha_imprecise.specs.Run.{finished, seen, imprecise_start, RunsImprecisely, units, ImpreciseRun, RunsOver}
use Rattle.alpha_imprecise.specs.Used.{HasUsed}
use Rattle.alpha_imprecise.specs.ChosenRun.{ChosenRun, begun, chosen_run, end_of_imprecise_event, lost_trap}
use Rattle.alpha_imprecise.specs.ChosenRun.{shown_chosen_run}
use Rattle.alpha_imprecise.specs.Restart.{Follows, Agrees, IsRestartable}
use Rattle.alpha_imprecise.specs.Shown.{SameRun, ChoicesAlike, ShowsSame, RunsAlike}
use Rattle.alpha_imprecise.proofs.DrawnRuns.{chosen_run-over}
use Rattle.alpha_imprecise.proofs.EventCounts.{pending_count, units-length_seen, RunsImprecisely-nothing_pending}
use Rattle.alpha_imprecise.proofs.EventCounts.{last_event}
use Rattle.alpha_imprecise.proofs.EventCounts.{run_last, seen_steps-last}
use Rattle.alpha_imprecise.proofs.EventCounts.{run-not_finished}
use Rattle.alpha_imprecise.proofs.PendingTraps.{is_none-true, made_is}

no_end : (event : Event) → is_over event ≡ false → end_of event ≡ None
no_end Went e = refl
no_end (Barriered traffic pc regs) e = refl
no_end (Overflowed at) e = refl
no_end (Ends end) e = cc

some_end : (event : Event) → is_over event ≡ true → end_of event ≡ None → ⊥
some_end Went over e = cc
some_end (Barriered traffic pc regs) over e = cc
some_end (Overflowed at) over e = cc
some_end (Ends end) over e = cc

no_lost : (h : ImpreciseEvent) → ((pc mask : ℕ) → h ≢ Lost pc mask) → lost_trap h ≡ None
no_lost (Precisely event) n = refl
no_lost (Triggered value) n = refl
no_lost (Waited adds value bytes) n = refl
no_lost (Reported at) n = refl
no_lost (Lost pc mask) n = absurd (n pc mask refl)

-- ---- whatever it is given

-- The precise run with the events that were seen of steps, which has made as many steps as they used units, or is over.
pub record SameFree (n : ℕ) (g : Program) (s : State) (steps : List ImpreciseEvent) (w : StepResult) : Type 0 where
  pub last : Stepped
  pub runs : Runs g (begins s) (seen steps) last
  pub made : HasMade n (seen steps) last
  pub end : end_of_imprecise_event w.last_event ≡ end_of last.event
  pub lost : lost_trap w.last_event ≡ None
  pub count : units g (imprecise_start s) steps ≡ length (seen steps)
  pub unique : last.state.unique ≡ w.state.unique
  pub over : finished w.last_event ≡ true → is_over last.event ≡ true

module _ (n : ℕ) (g : Program) (s : State) (steps : List ImpreciseEvent) (w : StepResult)
    (runs : RunsImprecisely g (imprecise_start s) steps w) (h : Agrees g s (seen steps) w)
    (used : HasUsed n (units g (imprecise_start s) steps) w) where
  -- nothing is pending at its end
  nothing_pending : w.pending ≡ None
  nothing_pending = by w.last_event refl
    where
      going : finished w.last_event ≡ false → w.pending ≡ None
      going e = is_none-true w.pending (ap (λ b. b || is_none w.pending) (sym e) ∙ used.settled)

      by : (x : ImpreciseEvent) → w.last_event ≡ x → w.pending ≡ None
      by (Precisely event) e =
          RunsImprecisely-nothing_pending g steps (imprecise_start s) w (λ event e. refl) runs event e
      by (Triggered value) e = going (ap finished e)
      by (Waited adds value bytes) e = going (ap finished e)
      by (Reported at) e = going (ap finished e)
      by (Lost pc mask) e = absurd (h.found pc mask e)

  abbrev follows : Follows g s (seen steps) w
  follows = h.follows nothing_pending

  count : units g (imprecise_start s) steps ≡ length (seen steps)
  count =
      let all = units-length_seen g steps (imprecise_start s) w runs in
      let none : pending_count w.pending ≡ 0 = ap pending_count nothing_pending in
      omega (arith, all, none)

  last_is : follows.last.event ≡ last_event Went (seen steps)
  last_is = run_last g (seen steps) (begins s) follows.last follows.runs

  last_precise : (event : Event) → w.last_event ≡ Precisely event → follows.last.event ≡ event
  last_precise event e =
      last_is
      ∙ seen_steps-last g steps (imprecise_start s) w event Went
      (λ f. let k : Precisely Went ≡ Precisely event = f in cc) runs e

  last_goes : finished w.last_event ≡ false → is_over follows.last.event ≡ false
  last_goes going = ap is_over last_is ∙ run-not_finished g steps (imprecise_start s) w Went refl runs going

  last_over : finished w.last_event ≡ true → is_over follows.last.event ≡ true
  last_over e = by w.last_event refl
    where
      by : (x : ImpreciseEvent) → w.last_event ≡ x → is_over follows.last.event ≡ true
      by (Precisely event) f = ap is_over (last_precise event f) ∙ (ap finished (sym f) ∙ e)
      by (Triggered value) f = absurd (let no : true ≡ false = sym e ∙ ap finished f in cc)
      by (Waited adds value bytes) f = absurd (let no : true ≡ false = sym e ∙ ap finished f in cc)
      by (Reported at) f = absurd (let no : true ≡ false = sym e ∙ ap finished f in cc)
      by (Lost pc mask) f = absurd (h.found pc mask f)

  same_end : end_of_imprecise_event w.last_event ≡ end_of follows.last.event
  same_end = by w.last_event refl
    where
      by : (x : ImpreciseEvent) → w.last_event ≡ x → end_of_imprecise_event x ≡ end_of follows.last.event
      by (Precisely event) e = sym (ap end_of (last_precise event e))
      by (Triggered value) e = sym (no_end follows.last.event (last_goes (ap finished e)))
      by (Waited adds value bytes) e = sym (no_end follows.last.event (last_goes (ap finished e)))
      by (Reported at) e = sym (no_end follows.last.event (last_goes (ap finished e)))
      by (Lost pc mask) e = absurd (h.found pc mask e)

  full : end_of follows.last.event ≡ None → length (seen steps) ≡ n
  full none =
      ⊎_elim
      (λ (over : finished w.last_event ≡ true). absurd (some_end follows.last.event (last_over over) none))
      (λ (going : finished w.last_event ≡ false). sym count ∙ used.full going)
      (cases_Bool (finished w.last_event))

  pub same_free : SameFree n g s steps w
  same_free = record {
    last = follows.last;
    runs = follows.runs;
    made = record { most = omega (arith, count, used.most); full = full };
    end = same_end;
    lost = no_lost w.last_event h.found;
    count = count;
    unique = follows.unique;
    over = last_over;
  }

-- ---- over an input

module _ (g : Program) (s : State) (input : List ℕ) (n : ℕ) (w : ImpreciseRun) (over : RunsOver g s input w)
    (same : SameFree n g s w.steps w.at) (used : HasUsed n w.units w.at) where
  -- the precise run of as many steps
  abbrev here : Run
  here = record { at = same.last; events = seen w.steps; left = w.left }

  run_is : after g s input n ≡ here
  run_is =
      let there : after g s input (length (seen w.steps)) ≡ here =
      fed-after g s (seen w.steps) same.last input w.left same.runs over.fed in
      ⊎_elim
      (λ (e : finished w.at.last_event ≡ true).
      after-over g s input n (length (seen w.steps)) same.made.most
      (ap (λ (r : Run). is_over r.at.event) there ∙ same.over e)
      ∙ there)
      (λ (e : finished w.at.last_event ≡ false).
      let all : n ≡ length (seen w.steps) = omega (arith, used.full e, over.used, same.count) in
      ap (after g s input) all ∙ there)
      (cases_Bool (finished w.at.last_event))

  same_run : SameRun (after g s input n) w
  same_run = subst (λ (r : Run). SameRun r w) (sym run_is) (record {
    end = same.end;
    lost = same.lost;
    steps = omega (arith, over.used, same.count);
    events = refl;
    unique = sym same.unique;
    left = refl;
  })

-- of a program that can be restarted
run_alike : (g : Program) (input : List ℕ) (n : ℕ) (w : ImpreciseRun) → IsRestartable g.image
    → RunsOver g (start g) input w → HasUsed n w.units w.at → SameRun (after g (start g) input n) w
run_alike g input n w h over used =
    let units_used : HasUsed n (units g (imprecise_start (start g)) w.steps) w.at =
    subst (λ k. HasUsed n k w.at) (sym over.used) used in
    same_run g (start g) input n w over
    (same_free n g (start g) w.steps w.at over.runs (h g.completion w.steps w.at over.runs) units_used) used

pub choices_alike : (image : Parts) → IsRestartable image → ChoicesAlike image
choices_alike image h =
    λ how input w n over used. run_alike (record { image = image; completion = how }) input n w h over used

SameRun-ShowsSame : (watch : Bool) (r : Run) (k : ChosenRun) → SameRun r k.run
    → ShowsSame (shown watch r) (shown_chosen_run watch k)
SameRun-ShowsSame watch r k h = record {
  end = h.end;
  lost = h.lost;
  steps = h.steps;
  output = ap output h.events;
  left = h.left;
  notes = ap (notes watch) h.events;
}

pub runs_alike : (image : Parts) → IsRestartable image → RunsAlike image
runs_alike image h = λ completion input words n watch.
    let g : Program = record { image = image; completion = completion } in
    let from = begun (start g) input None 0 words in
    let k = chosen_run g from n in
    let over = (chosen_run-over g (start g) input words n).0 in
    SameRun-ShowsSame watch (after g (start g) input n) k
    (run_alike g input n k.run h over (made_is g from n refl refl))
