-- What is seen of a run: so many events as units, and the last of them.
use Rattle.std.proofs.Common.{◌≡◌, ◌+◌, ◌||◌, not, ℕ, Bool, true, false, cond, List, [], ◌∷◌, ◌++◌, length, Option}
use Rattle.std.proofs.Common.{Some, None, refl, sym, ap, subst, ◌∙◌, length-append, arith}
use Rattle.std.specs.Option.{option_map_or}
use Rattle.alpha_table.specs.Class.{Class}
use Rattle.alpha_values.specs.TrapOp.{stops}
use Rattle.alpha_trap.specs.Scan.{scan}
use Rattle.alpha_seq.specs.declared.end.End.TheVariants as ends
use Rattle.alpha_seq.specs.State.{Program, State, Event, Overflowed, Ends, Stepped}
use Rattle.alpha_seq.specs.Step.{next_class, step}
use Rattle.alpha_seq.specs.Run.{is_over, next, Runs}
use Rattle.alpha_imprecise.specs.StepResult.{Trap, Choice, ImpreciseEvent, Precisely, Triggered, Waited, Reported, Lost}
use Rattle.alpha_imprecise.specs.StepResult.{StepResult, step_result}
use Rattle.alpha_imprecise.specs.Step.{triggers, can_wait, report, landed, completed, address_at, triggered, precisely}
use Rattle.alpha_imprecise.specs.Step.{waited, imprecise_step_at}
use Rattle.alpha_imprecise.specs.Run.{seen_of, seen, finished, choice_of, given_to, next_step_result, RunsImprecisely}
use Rattle.alpha_imprecise.specs.Run.{unit_of, units}

-- ---- what a step does to a pending trap

abbrev pub pending_count : Option Trap → ℕ
pending_count None = 0
pending_count (Some t) = 1

-- a unit is seen, or its trap is pending then; and who is said to have gone precisely has none
pub record Counts (p : Option Trap) (m : StepResult) : Type 0 where
  pub counted : unit_of p + pending_count p ≡ length (seen_of m.last_event) + pending_count m.pending
  pub nothing_pending : (event : Event) → m.last_event ≡ Precisely event → m.pending ≡ None
  pub held : (t : Trap) → p ≡ Some t → (event : Event) → m.last_event ≡ Precisely event
      → (at : ℕ) × (event ≡ Ends (ends.Overflow at))

counts_lands : (g : Program) (s : State) (t : Trap) (at : ℕ) (b : Bool) → Counts (Some t) (cond b (step_result
    (record s { pc = address_at g.image at }) None (Precisely (Ends (ends.Overflow (address_at g.image at)))))
    (step_result (completed g s at) None (Reported (address_at g.image at))))
counts_lands g s t at true = record {
  counted = refl;
  nothing_pending = λ event e. refl;
  held = λ u is event e. (
    address_at g.image at,
    (let f : Precisely event ≡ Precisely (Ends (ends.Overflow (address_at g.image at))) = sym e in cc),
  );
}
counts_lands g s t at false = record { counted = refl; nothing_pending = λ event e. refl; held = λ u is event e. cc }

counts_found : (g : Program) (s : State) (t : Trap) (at : Option ℕ)
    → Counts (Some t) (option_map_or (landed g s) at (step_result s (Some t) (Lost s.pc t.mask)))
counts_found g s t None = record { counted = refl; nothing_pending = λ event e. cc; held = λ u is event e. cc }
counts_found g s t (Some at) = counts_lands g s t at (stops g.completion)

pub imprecise_step_at-Counts : (g : Program) (o : Option Class) (s : State) (p : Option Trap) (c : Choice)
    (input : List ℕ)
    → Counts p (imprecise_step_at g o s p c input)
imprecise_step_at-Counts g o s None c input = by (triggers o s)
  where
    by : (b : Bool) → Counts None (cond b (triggered g o s c) (precisely (step g o s input)))
    by true = record { counted = refl; nothing_pending = λ event e. cc; held = λ u is event e. cc }
    by false = record { counted = refl; nothing_pending = λ event e. refl; held = λ u is event e. cc }
imprecise_step_at-Counts g o s (Some t) c input = by (c.report || not (can_wait o s))
  where
    by : (b : Bool) → Counts (Some t) (cond b (report g s t) (waited o s t c))
    by true = counts_found g s t (scan g.image s.pc t.mask)
    by false = record { counted = refl; nothing_pending = λ event e. cc; held = λ u is event e. cc }

pub units-length_seen : (g : Program) (hs : List ImpreciseEvent) (a b : StepResult) → RunsImprecisely g a hs b
    → units g a hs + pending_count a.pending ≡ length (seen hs) + pending_count b.pending
units-length_seen g [] a b run = ap (λ (m : StepResult). 0 + pending_count m.pending) run
units-length_seen g (h ∷ hs) a b run =
    let m = next_step_result g a h in
    let one =
    (imprecise_step_at-Counts g (next_class g a.state.pc) a.state a.pending (choice_of h) (given_to h)).counted in
    let one_is : unit_of a.pending + pending_count a.pending ≡ length (seen_of h) + pending_count m.pending =
    one ∙ ap (λ (x : ImpreciseEvent). length (seen_of x) + pending_count m.pending) run.1 in
    let rest = units-length_seen g hs m b run.2 in
    omega (arith, one_is, rest, length-append (seen_of h) (seen hs))

pub RunsImprecisely-nothing_pending : (g : Program) (hs : List ImpreciseEvent) (a b : StepResult)
    → ((event : Event) → a.last_event ≡ Precisely event → a.pending ≡ None) → RunsImprecisely g a hs b
    → (event : Event) → b.last_event ≡ Precisely event → b.pending ≡ None
RunsImprecisely-nothing_pending g [] a b calm run =
    subst (λ (m : StepResult). (event : Event) → m.last_event ≡ Precisely event → m.pending ≡ None) run calm
RunsImprecisely-nothing_pending g (h ∷ hs) a b calm run =
    RunsImprecisely-nothing_pending g hs (next_step_result g a h) b
    (imprecise_step_at-Counts g (next_class g a.state.pc) a.state a.pending (choice_of h) (given_to h)).nothing_pending
    run.2

-- ---- the last event

abbrev pub last_event : Event → List Event → Event
last_event event [] = event
last_event event (e ∷ events) = last_event e events

pub run_last : (g : Program) (events : List Event) (a b : Stepped) → Runs g a events b
    → b.event ≡ last_event a.event events
run_last g [] a b run = ap (λ (c : Stepped). c.event) (sym run)
run_last g (e ∷ events) a b run = run_last g events (next g a e) b run.2 ∙ ap (λ (x : Event). last_event x events) run.1

pub last_event-append : (event : Event) (xs : List Event) (e : Event) (ys : List Event)
    → last_event event (xs ++ e ∷ ys) ≡ last_event e ys
last_event-append event [] e ys = refl
last_event-append event (x ∷ xs) e ys = last_event-append x xs e ys

-- where a run has just gone precisely, that is the last that was seen
pub seen_steps-last : (g : Program) (hs : List ImpreciseEvent) (a b : StepResult) (event before : Event)
    → (a.last_event ≡ Precisely event → before ≡ event) → RunsImprecisely g a hs b → b.last_event ≡ Precisely event
    → last_event before (seen hs) ≡ event
seen_steps-last g [] a b event before first run is = first (ap (λ (m : StepResult). m.last_event) run ∙ is)
seen_steps-last g (h ∷ hs) a b event before first run is =
    by h refl (λ x f. seen_steps-last g hs (next_step_result g a h) b event x f run.2 is)
  where
    by : (x : ImpreciseEvent) → h ≡ x
        → ((y : Event) → ((next_step_result g a h).last_event ≡ Precisely event → y ≡ event)
        → last_event y (seen hs) ≡ event)
        → last_event before (seen_of x ++ seen hs) ≡ event
    by (Precisely e) same on = on e (λ f. let k : Precisely e ≡ Precisely event = sym same ∙ (sym run.1 ∙ f) in cc)
    by (Triggered value) same on =
        on before (λ f. let k : Triggered value ≡ Precisely event = sym same ∙ (sym run.1 ∙ f) in cc)
    by (Waited adds value bytes) same on =
        on before (λ f. let k : Waited adds value bytes ≡ Precisely event = sym same ∙ (sym run.1 ∙ f) in cc)
    by (Reported at) same on =
        on (Overflowed at) (λ f. let k : Reported at ≡ Precisely event = sym same ∙ (sym run.1 ∙ f) in cc)
    by (Lost pc mask) same on =
        on before (λ f. let k : Lost pc mask ≡ Precisely event = sym same ∙ (sym run.1 ∙ f) in cc)

-- what was seen has no end before the run has
next_goes : (g : Program) (hs : List ImpreciseEvent) (a b : StepResult) (e : Event) → a.last_event ≡ Precisely e
    → RunsImprecisely g a hs b → finished b.last_event ≡ false → is_over e ≡ false
next_goes g [] a b e is run going = ap finished (sym is ∙ ap (λ (m : StepResult). m.last_event) run) ∙ going
next_goes g (x ∷ hs) a b e is run going = ap finished (sym is) ∙ run.0

pub run-not_finished : (g : Program) (hs : List ImpreciseEvent) (a b : StepResult) (before : Event)
    → is_over before ≡ false → RunsImprecisely g a hs b → finished b.last_event ≡ false
    → is_over (last_event before (seen hs)) ≡ false
run-not_finished g [] a b before first run going = first
run-not_finished g (Precisely e ∷ hs) a b before first run going =
    run-not_finished g hs _ b e (next_goes g hs (next_step_result g a (Precisely e)) b e run.1 run.2 going) run.2 going
run-not_finished g (Triggered value ∷ hs) a b before first run going =
    run-not_finished g hs _ b before first run.2 going
run-not_finished g (Waited adds value bytes ∷ hs) a b before first run going =
    run-not_finished g hs _ b before first run.2 going
run-not_finished g (Reported at ∷ hs) a b before first run going =
    run-not_finished g hs _ b (Overflowed at) refl run.2 going
run-not_finished g (Lost pc mask ∷ hs) a b before first run going = run-not_finished g hs _ b before first run.2 going
