-- Which event a step has, by what was pending and by the choice.
use Rattle.std.specs.Prelude.{◌&&◌, nat_le}
use Rattle.std.proofs.Common.{◌≡◌, ◌||◌, not, ℕ, Bool, true, false, cond, Option, None, Some, refl, sym, ap, ◌∙◌}
use Rattle.alpha_pal.specs.declared.pal_end.Passed.{Passed}
use Rattle.alpha_trap.specs.Scan.{scan}
use Rattle.alpha_values.specs.TrapOp.{stops}
use Rattle.alpha_seq.specs.declared.end.End.TheVariants as ends
use Rattle.alpha_seq.specs.declared.event.Event.{Event as SeenEvent}
use Rattle.alpha_seq.specs.declared.event.Event.TheVariants as events
use Rattle.alpha_seq.specs.State.{Program, State, Event, Went, Barriered, Overflowed, Ends}
use Rattle.alpha_seq.specs.Step.{step}
use Rattle.alpha_seq.specs.Machine.{program_of, state_of, class_here}
use Rattle.alpha_seq.specs.StepLabel.{StepLabel}
use Rattle.alpha_seq.specs.Sequential.{seen_as}
use Rattle.alpha_imprecise.specs.declared.pending.Pending.{Pending}
use Rattle.alpha_imprecise.specs.StepResult.{Trap, Choice, Precisely, Triggered, Waited, Reported, StepResult}
use Rattle.alpha_imprecise.specs.StepResult.{step_result}
use Rattle.alpha_imprecise.specs.Step.{triggers, triggered, precisely, can_wait, adds_here, completed, address_at}
use Rattle.alpha_imprecise.specs.Step.{report, waited, imprecise_step}
use Rattle.alpha_imprecise.specs.Run.{given_to}
use Rattle.alpha_imprecise.specs.Chosen.{most_waited, must_report}
use Rattle.alpha_imprecise.specs.ImpreciseState.{ImpreciseState, trap_of, trap_in}
use Rattle.alpha_imprecise.specs.ImpreciseStepEffect.{shown_as, ImpreciseStepBy}
use Rattle.alpha_imprecise.proofs.ChoicesMade.{is_quiet, step-is_quiet}
use Rattle.alpha_imprecise.proofs.ReportLandings.{report_at}

-- a step with nothing pending that doesn't overflow
abbrev pub is_precise : SeenEvent → Bool
is_precise events.Went = true
is_precise (events.Barrier passed) = true
is_precise (events.Overflowed at) = false
is_precise (events.Triggered value) = false
is_precise (events.Waited wait) = false
is_precise (events.Reported at) = false
is_precise (events.Ended end) = is_quiet (Ends end)
is_precise (events.Lost pc mask) = false

-- a report, that completes the trigger, stops the program or is lost
abbrev pub is_report : SeenEvent → Bool
is_report events.Went = false
is_report (events.Barrier passed) = false
is_report (events.Overflowed at) = false
is_report (events.Triggered value) = false
is_report (events.Waited wait) = false
is_report (events.Reported at) = true
is_report (events.Ended end) = not (is_quiet (Ends end))
is_report (events.Lost pc mask) = true

precise-shown : (event : Event) (passed : Passed) → is_precise (seen_as event passed) ≡ is_quiet event
precise-shown Went passed = refl
precise-shown (Barriered traffic pc regs) passed = refl
precise-shown (Overflowed at) passed = refl
precise-shown (Ends end) passed = refl

-- how a step went, by the definition
happened_by : (choice : Choice) (old new : ImpreciseState) (p : StepLabel)
    → (stepped : ImpreciseStepBy choice old p new)
    → (o : Option Pending) → old.pending ≡ o
    → stepped.last_event
    ≡ (imprecise_step (program_of old.machine) (state_of old.machine) (trap_in o) choice
    (given_to stepped.last_event)).last_event
happened_by choice old new p stepped o is =
    sym (ap (λ (m : StepResult). m.last_event) stepped.is) ∙ ap (λ (q : Option Pending).
    (imprecise_step (program_of old.machine) (state_of old.machine) (trap_in q) choice
    (given_to stepped.last_event)).last_event)
    is

-- ---- with nothing pending

pub precise-event : (choice : Choice) (old new : ImpreciseState) (p : StepLabel) → ImpreciseStepBy choice old p new
    → old.pending ≡ None
    → triggers (class_here old.machine) (state_of old.machine) ≡ false → is_precise p.event ≡ true
precise-event choice old new p stepped calm exact =
    let g = program_of old.machine in
    let o = class_here old.machine in
    let s = state_of old.machine in
    let input = given_to stepped.last_event in
    let went : stepped.last_event ≡ Precisely (step g o s input).event = happened_by choice old new p stepped None calm
    ∙ ap (λ (b : Bool). (cond b (triggered g o s choice) (precisely (step g o s input))).last_event) exact in
    ap is_precise (stepped.event ∙ ap (shown_as stepped.passed) went)
    ∙ (precise-shown (step g o s input).event stepped.passed ∙ step-is_quiet g o s input exact)

pub triggered-event : (choice : Choice) (old new : ImpreciseState) (p : StepLabel) → ImpreciseStepBy choice old p new
    → old.pending ≡ None
    → triggers (class_here old.machine) (state_of old.machine) ≡ true → p.event ≡ events.Triggered choice.value
triggered-event choice old new p stepped calm overflows =
    let g = program_of old.machine in
    let o = class_here old.machine in
    let s = state_of old.machine in
    let went : stepped.last_event ≡ Triggered choice.value = happened_by choice old new p stepped None calm
    ∙ ap
    (λ (b : Bool). (cond b (triggered g o s choice) (precisely (step g o s (given_to stepped.last_event)))).last_event)
    overflows in
    stepped.event ∙ ap (shown_as stepped.passed) went

-- ---- while a trap is pending

reports-shown : (g : Program) (s : State) (t : Trap) (passed : Passed)
    → is_report (shown_as passed (report g s t).last_event) ≡ true
reports-shown g s t passed = stepped (scan g.image s.pc t.mask)
  where
    lands : (at : ℕ) (b : Bool) → is_report (shown_as passed (cond b
        (step_result (record s { pc = address_at g.image at }) None
        (Precisely (Ends (ends.Overflow (address_at g.image at)))))
        (step_result (completed g s at) None (Reported (address_at g.image at)))).last_event) ≡ true
    lands at true = refl
    lands at false = refl

    stepped : (found : Option ℕ) → is_report (shown_as passed (report_at g s t found).last_event) ≡ true
    stepped None = refl
    stepped (Some at) = lands at (stops g.completion)

pub reported-event : (choice : Choice) (old new : ImpreciseState) (p : StepLabel) (trap : Pending)
    → ImpreciseStepBy choice old p new → old.pending ≡ Some trap
    → choice.report ≡ true → is_report p.event ≡ true
reported-event choice old new p trap stepped some chosen =
    let g = program_of old.machine in
    let o = class_here old.machine in
    let s = state_of old.machine in
    let t = trap_of trap in
    let went : stepped.last_event ≡ (report g s t).last_event = happened_by choice old new p stepped (Some trap) some
    ∙ ap (λ (b : Bool). (cond (b || not (can_wait o s)) (report g s t) (waited o s t choice)).last_event) chosen in
    ap is_report (stepped.event ∙ ap (shown_as stepped.passed) went) ∙ reports-shown g s t stepped.passed

-- where no report is forced the word can be executed
not_or-false : (a b : Bool) → (not a || b) ≡ false → a ≡ true
not_or-false true b e = refl
not_or-false false b e = sym e

pub waited-event : (choice : Choice) (old new : ImpreciseState) (p : StepLabel) (trap : Pending)
    → ImpreciseStepBy choice old p new → old.pending ≡ Some trap
    → choice.report ≡ false → must_report (class_here old.machine) (state_of old.machine) trap.waited ≡ false
    → p.event
    ≡ events.Waited (record { adds = choice.adds && adds_here (class_here old.machine); value = choice.value })
waited-event choice old new p trap stepped some chosen may =
    let g = program_of old.machine in
    let o = class_here old.machine in
    let s = state_of old.machine in
    let t = trap_of trap in
    let can : can_wait o s ≡ true = not_or-false (can_wait o s) (nat_le most_waited trap.waited) may in
    let went : stepped.last_event ≡ Waited (choice.adds && adds_here o) choice.value choice.bytes =
    happened_by choice old new p stepped (Some trap) some
    ∙ (ap (λ (b : Bool). (cond (b || not (can_wait o s)) (report g s t) (waited o s t choice)).last_event) chosen
    ∙ ap (λ (b : Bool). (cond (not b) (report g s t) (waited o s t choice)).last_event) can) in
    stepped.event ∙ ap (shown_as stepped.passed) went
