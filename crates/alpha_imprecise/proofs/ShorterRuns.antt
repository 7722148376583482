-- A step uses a unit, or a trap waits for one word less.
use Rattle.std.proofs.Common.{◌≡◌, ◌<◌, ◌≤◌, ◌+◌, ◌*◌, false, [], ◌++◌, Option, Some, None, refl, sym, ap, subst, ◌∙◌}
use Rattle.std.proofs.Common.{arith}
use Rattle.alpha_io.specs.SinkChange.{SinkChange}
use Rattle.alpha_pal.specs.declared.pal_end.Passed.{Passed}
use Rattle.alpha_seq.specs.declared.event.Event.{Event as SeenEvent}
use Rattle.alpha_seq.specs.State.{Went, Barriered, Overflowed, Ends}
use Rattle.alpha_seq.specs.Machine.{program_of, state_of}
use Rattle.alpha_seq.specs.Devices.{Drawn}
use Rattle.alpha_seq.specs.StepLabel.{StepLabel, is_over}
use Rattle.alpha_imprecise.specs.declared.pending.Pending.{Pending}
use Rattle.alpha_imprecise.specs.StepResult.{Trap, ImpreciseEvent, Precisely}
use Rattle.alpha_imprecise.specs.Step.{imprecise_step}
use Rattle.alpha_imprecise.specs.Run.{finished, given_to, unit_of}
use Rattle.alpha_imprecise.specs.Chosen.{most_waited, Draw, chosen, waited_after}
use Rattle.alpha_imprecise.specs.Oracle.{Oracle}
use Rattle.alpha_imprecise.specs.ImpreciseState.{ImpreciseState, trap_of, trap_in, waited_in, step_result_of}
use Rattle.alpha_imprecise.specs.ImpreciseStepEffect.{shown_as, ImpreciseStep, ImpreciseStepMade, wait_left}
use Rattle.alpha_imprecise.specs.ImpreciseStepEffect.{imprecise_units, waits_left}
use Rattle.alpha_imprecise.proofs.ChosenRuns.{BecomesSettled, none, over, longer, chosen_settles}

-- the answer says whether the run is over
pub over-shown : (passed : Passed) (h : ImpreciseEvent) → is_over (shown_as passed h) ≡ finished h
over-shown passed (Precisely Went) = refl
over-shown passed (Precisely (Barriered traffic pc regs)) = refl
over-shown passed (Precisely (Overflowed at)) = refl
over-shown passed (Precisely (Ends end)) = refl
over-shown passed h = refl

settles_as : (t : Trap) (old new : ImpreciseState) (p : StepLabel) → trap_in old.pending ≡ Some t
    → (did : ImpreciseStep old p new)
    → BecomesSettled (waited_in old.pending) (step_result_of new did.step.last_event)
settles_as t old new p some did =
    let g = program_of old.machine in
    let from = state_of old.machine in
    let words = p.words ++ [] in
    let input = given_to did.step.last_event in
    subst (BecomesSettled (waited_in old.pending))
    (ap (λ (d : Draw). imprecise_step g from (trap_in old.pending) d.choice input) (did.draws []) ∙ did.step.is)
    (subst
    (λ (o : Option Trap). BecomesSettled (waited_in old.pending) (chosen g from o (waited_in old.pending) words input))
    (sym some)
    (chosen_settles g from t (waited_in old.pending) words input))

-- a word that waited is one more
waits_more : (w v : Pending) (old new : ImpreciseState) (p : StepLabel) → old.pending ≡ Some w → new.pending ≡ Some v
    → (did : ImpreciseStep old p new)
    → finished did.step.last_event ≡ false → (v.waited ≡ w.waited + 1) × (w.waited < most_waited)
waits_more w v old new p some still did going = by (settles_as (trap_of w) old new p (ap trap_in some) did)
  where
    by : BecomesSettled (waited_in old.pending) (step_result_of new did.step.last_event)
        → (v.waited ≡ w.waited + 1) × (w.waited < most_waited)
    by (none e) = absurd (let f = sym (ap trap_in still) ∙ e in cc)
    by (over e) = absurd (let f = sym going ∙ e in cc)
    by (longer adds value bytes e low) = (
      sym (ap waited_in still)
          ∙ (did.step.waited ∙ (ap (λ (x : ImpreciseEvent). waited_after x (waited_in old.pending)) e
          ∙ ap (λ (o : Option Pending). waited_in o + 1) some)),
      subst (λ (o : Option Pending). waited_in o < most_waited) some low,
    )

wait_most : (o : Option Pending) → wait_left o ≤ 1025
wait_most None = omega arith
wait_most (Some p) = omega arith

nearer_by : (old new : ImpreciseState) (p : StepLabel) → (did : ImpreciseStep old p new)
    → finished did.step.last_event ≡ false → waits_left new < waits_left old + 1026 * imprecise_units old
nearer_by old new p did going = by old.pending new.pending refl refl
  where
    by : (o q : Option Pending) → old.pending ≡ o → new.pending ≡ q
        → wait_left q < wait_left o + 1026 * unit_of (trap_in o)
    by None q e f = let most = wait_most q in omega arith
    by (Some w) None e f = omega arith
    by (Some w) (Some v) e f =
        let m = waits_more w v old new p e f did going in
        let count = m.0 in
        let low = m.1 in omega arith

pub waits_left-falls : (event : SeenEvent) (old new : ImpreciseState) (before after : Oracle) (input : Drawn)
    (out : SinkChange)
    → ImpreciseStepMade event old new before after input out
    → is_over event ≡ false → waits_left new < waits_left old + 1026 * imprecise_units old
waits_left-falls event old new before after input out made going =
    let did = made.is in
    nearer_by old new made.label did
    (sym (over-shown did.step.passed did.step.last_event) ∙ (ap is_over (sym did.step.event ∙ made.event_is) ∙ going))
