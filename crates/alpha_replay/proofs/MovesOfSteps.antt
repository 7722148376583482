-- The move that a step was: by the words that chose it, and by the move that was asked for.
use Rattle.std.proofs.Common.{◌≡◌, ◌&&◌, not, ℕ, Bool, true, false, cond, List, Option, Some, None, refl, ap, ◌∙◌}
use Rattle.std.proofs.lemmas.Bool.{and_from}
use Rattle.std.proofs.Math.Bool.{and-false}
use Rattle.alpha_pal.specs.declared.pal_end.Passed.{Passed}
use Rattle.alpha_table.specs.Class.{Class}
use Rattle.alpha_seq.specs.declared.end.End.{End}
use Rattle.alpha_seq.specs.declared.end.End.TheVariants as ends
use Rattle.alpha_seq.specs.declared.event.Event.{Event as SeenEvent}
use Rattle.alpha_seq.specs.declared.event.Event.TheVariants as events
use Rattle.alpha_seq.specs.State.{Program, State, Went, Barriered, Overflowed, Ends}
use Rattle.alpha_seq.specs.Machine.{program_of, state_of, class_here}
use Rattle.alpha_seq.specs.StepLabel.{StepLabel, is_over}
use Rattle.alpha_imprecise.specs.declared.pending.Pending.{Pending}
use Rattle.alpha_imprecise.specs.StepResult.{Trap, Choice, ImpreciseEvent, Precisely, Triggered, Waited, Reported, Lost}
use Rattle.alpha_imprecise.specs.Step.{triggers, adds_here, imprecise_step_at}
use Rattle.alpha_imprecise.specs.Chosen.{reporting, triggering, must_report}
use Rattle.alpha_imprecise.specs.ChoiceSource.{Asked, Unasked, ValueAsked, PickAsked, choice_by, asked_at, asked}
use Rattle.alpha_imprecise.specs.ImpreciseState.{ImpreciseState, trap_of, trap_in, waited_in}
use Rattle.alpha_imprecise.specs.ImpreciseStepEffect.{shown_as, ImpreciseStepBy}
use Rattle.alpha_imprecise.proofs.ShorterRuns.{over-shown}
use Rattle.alpha_imprecise.proofs.EventKinds.{is_precise, is_report, precise-event, triggered-event, reported-event}
use Rattle.alpha_imprecise.proofs.EventKinds.{waited-event}
use Rattle.alpha_replay.specs.declared.moves.Move.{Move}
use Rattle.alpha_replay.specs.declared.moves.Move.TheVariants.{One, Trips, Waits, Reports}
use Rattle.alpha_replay.specs.Events.{move_by}
use Rattle.alpha_replay.specs.ReplayEffect.{IsLast}
use Rattle.alpha_replay.specs.Replay.{ending_of, ending_seen}
use Rattle.alpha_replay.specs.FixedChoice.{pick_of, value_of, given_choice}
use Rattle.alpha_replay.specs.Moves.{choice_of, may_add, move_applies}

-- ---- how the last step went, by its event

ending_line : (passed : Passed) (h : ImpreciseEvent) → ending_seen (shown_as passed h) ≡ ending_of h
ending_line passed (Precisely Went) = refl
ending_line passed (Precisely (Barriered traffic pc regs)) = refl
ending_line passed (Precisely (Overflowed at)) = refl
ending_line passed (Precisely (Ends end)) = refl
ending_line passed (Triggered value) = refl
ending_line passed (Waited adds value bytes) = refl
ending_line passed (Reported at) = refl
ending_line passed (Lost pc mask) = refl

pub IsLast-shown_as : (event : SeenEvent) (passed : Passed) (h : ImpreciseEvent) → event ≡ shown_as passed h
    → IsLast event h
IsLast-shown_as event passed h e = record {
  over = ap is_over e ∙ over-shown passed h;
  ending = ap ending_seen e ∙ ending_line passed h;
}

-- ---- the move of a kind of step

precise_end : (end : End) → is_precise (events.Ended end) ≡ true → move_by (events.Ended end) ≡ One
precise_end (ends.Exit value) e = refl
precise_end (ends.Signal code pc) e = refl
precise_end (ends.Fetch pc) e = refl
precise_end (ends.Access pc addr) e = refl
precise_end (ends.Align pc addr) e = refl
precise_end (ends.Overflow pc) e = cc

one_by : (event : SeenEvent) → is_precise event ≡ true → move_by event ≡ One
one_by events.Went e = refl
one_by (events.Barrier passed) e = refl
one_by (events.Overflowed at) e = refl
one_by (events.Triggered value) e = cc
one_by (events.Waited w) e = cc
one_by (events.Reported at) e = cc
one_by (events.Ended end) e = precise_end end e
one_by (events.Lost pc mask) e = cc

report_end : (end : End) → is_report (events.Ended end) ≡ true → move_by (events.Ended end) ≡ Reports
report_end (ends.Exit value) e = cc
report_end (ends.Signal code pc) e = cc
report_end (ends.Fetch pc) e = cc
report_end (ends.Access pc addr) e = cc
report_end (ends.Align pc addr) e = cc
report_end (ends.Overflow pc) e = refl

report_by : (event : SeenEvent) → is_report event ≡ true → move_by event ≡ Reports
report_by events.Went e = cc
report_by (events.Barrier passed) e = cc
report_by (events.Overflowed at) e = cc
report_by (events.Triggered value) e = cc
report_by (events.Waited w) e = cc
report_by (events.Reported at) e = refl
report_by (events.Ended end) e = report_end end e
report_by (events.Lost pc mask) e = refl

-- ---- by the move that was asked for

-- whether it is that move, by the tests and by the choice
pub record MoveFits (g : Program) (o : Option Class) (s : State) (t : Option Trap) (n : ℕ) (c : Choice)
    (m was : Move) : Type 0 where
  pub same : was ≡ m
      → (move_applies o s t n m ≡ true)
      × ((input : List ℕ) → imprecise_step_at g o s t (choice_of m) input ≡ imprecise_step_at g o s t c input)
  pub other : (was ≡ m → ⊥) → move_applies o s t n m ≡ false

adds_not : (a b : Bool) → a ≡ b → (c : Bool) → (a ≡ true → ⊥) → (a && c) ≡ false
adds_not a true e c apart = absurd (apart e)
adds_not a false e c apart = ap (λ (x : Bool). x && c) e

module _ (g : Program) (o : Option Class) (s : State) where
  -- it overflowed
  trips_fit : (n : ℕ) (m : Move) → triggers o s ≡ true
      → MoveFits g o s None n (triggering (value_of m)).choice m (Trips (value_of m))
  trips_fit n One e = record { same = λ is. absurd cc; other = λ no. ap (λ (b : Bool). not b) e }
  trips_fit n (Trips value) e = record { same = λ is. (e, λ input. refl); other = λ no. absurd (no refl) }
  trips_fit n (Waits adds value) e =
      record { same = λ is. absurd cc; other = λ no. and-false (may_add o (Waits adds value)) }
  trips_fit n Reports e = record { same = λ is. absurd cc; other = λ no. refl }

  -- with nothing pending, it didn't
  one_fits : (n : ℕ) (m : Move) → triggers o s ≡ false → MoveFits g o s None n (reporting 0).choice m One
  one_fits n One e = record { same = λ is. (ap (λ (b : Bool). not b) e, λ input. refl); other = λ no. absurd (no refl) }
  one_fits n (Trips value) e = record { same = λ is. absurd cc; other = λ no. e }
  one_fits n (Waits adds value) e =
      record { same = λ is. absurd cc; other = λ no. and-false (may_add o (Waits adds value)) }
  one_fits n Reports e = record { same = λ is. absurd cc; other = λ no. refl }

  -- a report that had to be
  forced_fits : (t : Trap) (n : ℕ) (m : Move) → must_report o s n ≡ true
      → MoveFits g o s (Some t) n (reporting 0).choice m Reports
  forced_fits t n One e = record { same = λ is. absurd cc; other = λ no. refl }
  forced_fits t n (Trips value) e = record { same = λ is. absurd cc; other = λ no. refl }
  forced_fits t n (Waits adds value) e = record {
    same = λ is. absurd cc;
    other = λ no. ap (λ (b : Bool). may_add o (Waits adds value) && not b) e ∙ and-false (may_add o (Waits adds value));
  }
  forced_fits t n Reports e = record { same = λ is. (refl, λ input. refl); other = λ no. absurd (no refl) }

  -- where a word can be executed, the move of a report and of a wait
  abbrev picked : Move → Move
  picked (Waits adds value) = Waits (adds && adds_here o) value
  picked _ = Reports

  picked_fits : (t : Trap) (n : ℕ) (m : Move) → must_report o s n ≡ false
      → MoveFits g o s (Some t) n (choice_by (pick_of m)) m (picked m)
  picked_fits t n One e = record { same = λ is. absurd cc; other = λ no. refl }
  picked_fits t n (Trips value) e = record { same = λ is. absurd cc; other = λ no. refl }
  picked_fits t n (Waits false value) e =
      record { same = λ is. (ap (λ (b : Bool). not b) e, λ input. refl); other = λ no. absurd (no refl) }
  picked_fits t n (Waits true value) e = record {
    same =
        λ is. (let adds : adds_here o ≡ true = cc in
        (and_from (adds_here o) (not (must_report o s n)) adds (ap (λ (b : Bool). not b) e), λ input. refl));
    other =
        λ no. adds_not (adds_here o) (adds_here o) refl (not (must_report o s n))
        (λ adds. no (ap (λ (b : Bool). Waits b value) adds));
  }
  picked_fits t n Reports e = record { same = λ is. (refl, λ input. refl); other = λ no. absurd (no refl) }

module _ (old : ImpreciseState) (p : StepLabel) (new : ImpreciseState) (m : Move)
    (is : ImpreciseStepBy (given_choice m (asked old)) old p new) where
  abbrev here : Option Class
  here = class_here old.machine

  abbrev at : State
  at = state_of old.machine

  abbrev FitsBy : Option Pending → Choice → Move → Type 0
  FitsBy pending c was = MoveFits (program_of old.machine) here at (trap_in pending) (waited_in pending) c m was

  -- the choice, by what was asked
  given_at : (pending : Option Pending) (a : Asked) → old.pending ≡ pending
      → asked_at here (state_of old.machine) (trap_in pending) (waited_in pending) ≡ a
      → given_choice m (asked old) ≡ given_choice m a
  given_at pending a e f =
      ap (λ (q : Option Pending). given_choice m (asked_at here (state_of old.machine) (trap_in q) (waited_in q))) e
      ∙ ap (given_choice m) f

  fits_none : old.pending ≡ None → FitsBy None (given_choice m (asked old)) (move_by p.event)
  fits_none calm = by (triggers here (state_of old.machine)) refl
    where
      by : (b : Bool) → triggers here (state_of old.machine) ≡ b
          → FitsBy None (given_choice m (asked old)) (move_by p.event)
      by true e =
          let given = given_at None ValueAsked calm (ap (λ (b : Bool). cond b ValueAsked Unasked) e) in
          let was : move_by p.event ≡ Trips (value_of m) =
          ap move_by (triggered-event (given_choice m (asked old)) old new p is calm e)
          ∙ ap (λ (c : Choice). Trips c.value) given in
          rw (given, was) (trips_fit (program_of old.machine) here at 0 m e)
      by false e =
          let given = given_at None Unasked calm (ap (λ (b : Bool). cond b ValueAsked Unasked) e) in
          let was = one_by p.event (precise-event (given_choice m (asked old)) old new p is calm e) in
          rw (given, was) (one_fits (program_of old.machine) here at 0 m e)

  fits_some : (trap : Pending) → old.pending ≡ Some trap
      → FitsBy (Some trap) (given_choice m (asked old)) (move_by p.event)
  fits_some trap some = by (must_report here (state_of old.machine) trap.waited) refl
    where
      chosen : (c : Choice) → given_choice m (asked old) ≡ c → c.report ≡ true → move_by p.event ≡ Reports
      chosen c given reports =
          report_by p.event
          (reported-event (given_choice m (asked old)) old new p trap is some
          (ap (λ (x : Choice). x.report) given ∙ reports))

      waited : (n : Move) → choice_by (pick_of m) ≡ choice_by (pick_of n)
          → given_choice m (asked old) ≡ choice_by (pick_of n)
          → must_report here (state_of old.machine) trap.waited ≡ false
          → move_by p.event ≡ picked (program_of old.machine) here at n
      waited One e given may = chosen (choice_by None) given refl
      waited (Trips value) e given may = chosen (choice_by None) given refl
      waited Reports e given may = chosen (choice_by None) given refl
      waited (Waits adds value) e given may =
          ap move_by
          (waited-event (given_choice m (asked old)) old new p trap is some (ap (λ (x : Choice). x.report) given) may)
          ∙ ap (λ (x : Choice). Waits (x.adds && adds_here here) x.value) given

      by : (b : Bool) → must_report here (state_of old.machine) trap.waited ≡ b
          → FitsBy (Some trap) (given_choice m (asked old)) (move_by p.event)
      by true e =
          let given = given_at (Some trap) Unasked some (ap (λ (b : Bool). cond b Unasked PickAsked) e) in
          rw (given, chosen (reporting 0).choice given refl)
          (forced_fits (program_of old.machine) here at (trap_of trap) trap.waited m e)
      by false e =
          let given = given_at (Some trap) PickAsked some (ap (λ (b : Bool). cond b Unasked PickAsked) e) in
          rw (given, waited m refl given e)
          (picked_fits (program_of old.machine) here at (trap_of trap) trap.waited m e)

  pub given-fits : FitsBy old.pending (given_choice m (asked old)) (move_by p.event)
  given-fits = by old.pending refl
    where
      by : (pending : Option Pending) → old.pending ≡ pending
          → FitsBy pending (given_choice m (asked old)) (move_by p.event)
      by None e = fits_none e
      by (Some trap) e = fits_some trap e
