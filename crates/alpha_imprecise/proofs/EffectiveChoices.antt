-- A step is the one by what it is said to have chosen and to have been given, and it looks at no more than it asks for.
use Rattle.std.proofs.Common.{◌≡◌, ℕ, Bool, true, false, cond, eqb, not, ◌&&◌, List, [], ◌++◌, length, take, drop}
use Rattle.std.proofs.Common.{Option, Some, None, refl, sym, ap, ◌∙◌}
use Rattle.std.specs.Prelude.{bit_or, ◌^◌, ◌||◌}
use Rattle.alpha_table.specs.Class.{Class, operate, trigger, address, load, store, load_locked, store_conditional}
use Rattle.alpha_table.specs.Class.{branch, jump, barrier, idle}
use Rattle.alpha_table.specs.declared.columns.MemAccess.{MemAccess}
use Rattle.alpha_values.specs.TrapOp.{stops}
use Rattle.alpha_trap.specs.Scan.{scan}
use Rattle.alpha_seq.specs.declared.end.End.TheVariants as ends
use Rattle.alpha_seq.specs.State.{Program, State, Event, Ends}
use Rattle.alpha_seq.specs.Step.{next_class, step, matches, lock_block}
use Rattle.alpha_seq.specs.Run.{asked, Fed}
use Rattle.alpha_seq.proofs.InputRequests.{step-asks}
use Rattle.alpha_imprecise.specs.StepResult.{Trap, Choice, with_register, ImpreciseEvent, Precisely, Triggered, Waited}
use Rattle.alpha_imprecise.specs.StepResult.{Reported, Lost, StepResult, step_result}
use Rattle.alpha_imprecise.specs.Step.{triggers, can_wait, unpredictable_state, unpredictable_conditional, report}
use Rattle.alpha_imprecise.specs.Step.{completed, address_at, imprecise_step_at, imprecise_step, triggered, precisely}
use Rattle.alpha_imprecise.specs.Step.{waited, adds_here, trap_destination}
use Rattle.alpha_imprecise.specs.Run.{seen_of, choice_of, given_to, next_step_result}
use Rattle.alpha_imprecise.proofs.ReportLandings.{report_at}

abbrev pub asked_for : ImpreciseEvent → ℕ
asked_for (Precisely event) = asked event
asked_for h = 0

pub record HasEffectiveChoice (f : Choice → List ℕ → StepResult) (c : Choice) : Type 0 where
  pub count : ℕ
  pub only : (input : List ℕ) → f c input ≡ f c (take count input)
  pub asks : (input : List ℕ) → asked_for (f c input).last_event ≡ count
  pub gives : (input : List ℕ) → given_to (f c input).last_event ≡ take count input
  pub again : (input : List ℕ) → f (choice_of (f c input).last_event) input ≡ f c input

-- ---- with nothing pending

-- one that is given nothing
HasEffectiveChoice-still : (f : Choice → StepResult) (c : Choice) → given_to (f c).last_event ≡ []
    → asked_for (f c).last_event ≡ 0
    → f (choice_of (f c).last_event) ≡ f c
    → HasEffectiveChoice (λ c input. f c) c
HasEffectiveChoice-still f c gave asks again =
    record { count = 0; only = λ input. refl; asks = λ input. asks; gives = λ input. gave; again = λ input. again }

HasEffectiveChoice-nothing_pending : (g : Program) (o : Option Class) (s : State) (c : Choice) (b : Bool)
    → HasEffectiveChoice (λ d input. cond b (triggered g o s d) (precisely (step g o s input))) c
HasEffectiveChoice-nothing_pending g o s c true = HasEffectiveChoice-still (triggered g o s) c refl refl refl
HasEffectiveChoice-nothing_pending g o s c false =
    let f = step-asks g o s in
    record {
      count = f.count;
      only = λ input. ap precisely (f.only input);
      asks = f.asks;
      gives = f.gives;
      again = λ input. refl;
    }

-- ---- a report, which is the same by each choice to report

HasEffectiveChoice-reported : (f : Choice → StepResult) (c : Choice) (m : StepResult) → f c ≡ m
    → ((d : Choice) → d.report ≡ true → f d ≡ m)
    → given_to m.last_event ≡ [] → asked_for m.last_event ≡ 0 → (choice_of m.last_event).report ≡ true
    → HasEffectiveChoice (λ d input. f d) c
HasEffectiveChoice-reported f c m here each gave asks reports =
    HasEffectiveChoice-still f c (ap (λ (n : StepResult). given_to n.last_event) here ∙ gave)
    (ap (λ (n : StepResult). asked_for n.last_event) here ∙ asks)
    (ap (λ (n : StepResult). f (choice_of n.last_event)) here ∙ (each (choice_of m.last_event) reports ∙ sym here))

abbrev landing_result : Program → State → ℕ → Bool → StepResult
landing_result g s at b =
    cond b
    (step_result (record s { pc = address_at g.image at }) None
    (Precisely (Ends (ends.Overflow (address_at g.image at)))))
    (step_result (completed g s at) None (Reported (address_at g.image at)))

HasEffectiveChoice-landing : (g : Program) (s : State) (at : ℕ) (c : Choice) (f : Choice → StepResult) (b : Bool)
    → f c ≡ landing_result g s at b
    → ((d : Choice) → d.report ≡ true → f d ≡ landing_result g s at b)
    → HasEffectiveChoice (λ d input. f d) c
HasEffectiveChoice-landing g s at c f true here each =
    HasEffectiveChoice-reported f c (landing_result g s at true) here each refl refl refl
HasEffectiveChoice-landing g s at c f false here each =
    HasEffectiveChoice-reported f c (landing_result g s at false) here each refl refl refl

reporting : (g : Program) (s : State) (t : Trap) (c : Choice) (f : Choice → StepResult) (found : Option ℕ)
    → f c ≡ report_at g s t found → ((d : Choice) → d.report ≡ true → f d ≡ report_at g s t found)
    → HasEffectiveChoice (λ d input. f d) c
reporting g s t c f None here each = HasEffectiveChoice-reported f c (report_at g s t None) here each refl refl refl
reporting g s t c f (Some at) here each = HasEffectiveChoice-landing g s at c f (stops g.completion) here each

-- ---- a word that waits

-- the choice that it is said to have made
abbrev effective_choice : Option Class → Choice → Choice
effective_choice o c = record { report = false; value = c.value; bytes = c.bytes; adds = c.adds && adds_here o }

HasEffectiveChoice-conditional : (o : Option Class) (b : Bool) (at : MemAccess) (ra : ℕ) (s : State) (c : Choice)
    → unpredictable_conditional b at ra s (effective_choice o c) ≡ unpredictable_conditional b at ra s c
HasEffectiveChoice-conditional o true at ra s c = refl
HasEffectiveChoice-conditional o false at ra s c = refl

HasEffectiveChoice-unpredictable : (o : Option Class) (s : State) (c : Choice)
    → unpredictable_state o s (effective_choice o c) ≡ unpredictable_state o s c
HasEffectiveChoice-unpredictable (Some (operate op ra src rc)) s c = refl
HasEffectiveChoice-unpredictable (Some (trigger op ra src rc)) s c = refl
HasEffectiveChoice-unpredictable (Some (address op ra rb disp)) s c = refl
HasEffectiveChoice-unpredictable (Some (load extension at ra)) s c = refl
HasEffectiveChoice-unpredictable (Some (store at ra)) s c = refl
HasEffectiveChoice-unpredictable (Some (load_locked extension at ra)) s c = refl
HasEffectiveChoice-unpredictable (Some (store_conditional at ra)) s c =
    HasEffectiveChoice-conditional (Some (store_conditional at ra)) (matches s.lock (lock_block at s)) at ra s c
HasEffectiveChoice-unpredictable (Some (branch None ra disp)) s c = refl
HasEffectiveChoice-unpredictable (Some (branch (Some condition) ra disp)) s c = refl
HasEffectiveChoice-unpredictable (Some (jump ra rb)) s c = refl
HasEffectiveChoice-unpredictable (Some idle) s c = refl
HasEffectiveChoice-unpredictable (Some (barrier call)) s c = refl
HasEffectiveChoice-unpredictable None s c = refl

mask-same : (a e : Bool) (m x : ℕ) → cond (a && not e) (cond e m x) m ≡ cond a (cond e m x) m
mask-same true true m x = refl
mask-same true false m x = refl
mask-same false e m x = refl

and-twice : (a b : Bool) → (a && b) && b ≡ (a && b)
and-twice true true = refl
and-twice true false = refl
and-twice false b = refl

HasEffectiveChoice-waited : (o : Option Class) (s : State) (t : Trap) (c : Choice)
    → waited o s t (effective_choice o c) ≡ waited o s t c
HasEffectiveChoice-waited o s t c =
    ap (λ (u : State). step_result u
    (Some (record t { mask = cond (c.adds && adds_here o) (with_register t.mask (trap_destination o)) t.mask }))
    (Waited ((c.adds && adds_here o) && adds_here o) c.value c.bytes))
    (HasEffectiveChoice-unpredictable o s c)
    ∙ (ap (λ (n : ℕ). step_result (unpredictable_state o s c) (Some (record t { mask = n }))
    (Waited ((c.adds && adds_here o) && adds_here o) c.value c.bytes))
    (mask-same c.adds (eqb (trap_destination o) 31) t.mask (bit_or t.mask (2 ^ trap_destination o)))
    ∙ ap (λ (b : Bool). step_result (unpredictable_state o s c)
    (Some (record t { mask = cond c.adds (with_register t.mask (trap_destination o)) t.mask }))
    (Waited b c.value c.bytes))
    (and-twice c.adds (adds_here o)))

-- ---- the step

HasEffectiveChoice-pending : (g : Program) (o : Option Class) (s : State) (t : Trap) (c : Choice) (b : Bool)
    → (c.report || not (can_wait o s)) ≡ b
    → HasEffectiveChoice (λ d input. cond (d.report || not (can_wait o s)) (report g s t) (waited o s t d)) c
HasEffectiveChoice-pending g o s t c true here =
    reporting g s t c (λ d. cond (d.report || not (can_wait o s)) (report g s t) (waited o s t d))
    (scan g.image s.pc t.mask)
    (ap (λ b. cond b (report g s t) (waited o s t c)) here)
    (λ d reports. ap (λ b. cond (b || not (can_wait o s)) (report g s t) (waited o s t d)) reports)
HasEffectiveChoice-pending g o s t c false here =
    let f : Choice → StepResult = λ d. cond (d.report || not (can_wait o s)) (report g s t) (waited o s t d) in
    let is : f c ≡ waited o s t c = ap (λ b. cond b (report g s t) (waited o s t c)) here in
    let again : f (effective_choice o c) ≡ waited o s t (effective_choice o c) = ap
    (λ b. cond b (report g s t) (waited o s t (effective_choice o c))) (or_right c.report (not (can_wait o s)) here) in
    HasEffectiveChoice-still f c (ap (λ (n : StepResult). given_to n.last_event) is)
    (ap (λ (n : StepResult). asked_for n.last_event) is)
    (ap (λ (n : StepResult). f (choice_of n.last_event)) is ∙ (again ∙ (HasEffectiveChoice-waited o s t c ∙ sym is)))
  where
    or_right : (a b : Bool) → (a || b) ≡ false → b ≡ false
    or_right true b e = cc
    or_right false b e = e

imprecise_step_at-HasEffectiveChoice : (g : Program) (o : Option Class) (s : State) (p : Option Trap) (c : Choice)
    → HasEffectiveChoice (imprecise_step_at g o s p) c
imprecise_step_at-HasEffectiveChoice g o s None c = HasEffectiveChoice-nothing_pending g o s c (triggers o s)
imprecise_step_at-HasEffectiveChoice g o s (Some t) c =
    HasEffectiveChoice-pending g o s t c (c.report || not (can_wait o s)) refl

pub imprecise_step-HasEffectiveChoice : (g : Program) (s : State) (p : Option Trap) (c : Choice)
    → HasEffectiveChoice (imprecise_step g s p) c
imprecise_step-HasEffectiveChoice g s p c = imprecise_step_at-HasEffectiveChoice g (next_class g s.pc) s p c

-- ---- a step by what it is said to be

pub next_step_result-same : (g : Program) (a : StepResult) (c : Choice) (input : List ℕ)
    → let m = imprecise_step g a.state a.pending c input in next_step_result g a m.last_event ≡ m
next_step_result-same g a c input =
    let h = (imprecise_step g a.state a.pending c input).last_event in
    let f = imprecise_step-HasEffectiveChoice g a.state a.pending c in
    let q = imprecise_step-HasEffectiveChoice g a.state a.pending (choice_of h) in
    let count : q.count ≡ f.count =
    sym (q.asks input) ∙ (ap (λ (m : StepResult). asked_for m.last_event) (f.again input) ∙ f.asks input) in
    ap (imprecise_step g a.state a.pending (choice_of h)) (f.gives input ∙ ap (λ n. take n input) (sym count))
    ∙ (sym (q.only input) ∙ f.again input)

-- a step by this choice that went so is the one by the choice that it is said to have made
pub next_step_result-by : (g : Program) (a : StepResult) (c : Choice) (h : ImpreciseEvent)
    → (imprecise_step g a.state a.pending c (given_to h)).last_event ≡ h
    → next_step_result g a h ≡ imprecise_step g a.state a.pending c (given_to h)
next_step_result-by g a c h same = ap (next_step_result g a) (sym same) ∙ next_step_result-same g a c (given_to h)

-- over what it is given it is the same step
pub imprecise_step-given_input : (g : Program) (a : StepResult) (c : Choice) (input : List ℕ)
    → imprecise_step g a.state a.pending c (given_to (imprecise_step g a.state a.pending c input).last_event)
    ≡ imprecise_step g a.state a.pending c input
imprecise_step-given_input g a c input =
    let f = imprecise_step-HasEffectiveChoice g a.state a.pending c in
    ap (imprecise_step g a.state a.pending c) (f.gives input) ∙ sym (f.only input)

-- over each input that gives it that, a step by this choice went so
pub imprecise_step-over_input : (g : Program) (a : StepResult) (c : Choice) (h : ImpreciseEvent) (input : List ℕ)
    → (imprecise_step g a.state a.pending c (given_to h)).last_event ≡ h
    → given_to h ≡ take (asked_for h) input
    → imprecise_step g a.state a.pending c input ≡ imprecise_step g a.state a.pending c (given_to h)
imprecise_step-over_input g a c h input same fed =
    let q = imprecise_step-HasEffectiveChoice g a.state a.pending c in
    let count : asked_for h ≡ q.count = ap asked_for (sym same) ∙ q.asks (given_to h) in
    q.only input ∙ ap (imprecise_step g a.state a.pending c) (sym (fed ∙ ap (λ n. take n input) count))

-- and it is given as much as it asks for, or all that there is
pub given_to-take_asked : (g : Program) (a : StepResult) (c : Choice) (input : List ℕ)
    → let h = (imprecise_step g a.state a.pending c input).last_event in given_to h ≡ take (asked_for h) input
given_to-take_asked g a c input =
    let f = imprecise_step-HasEffectiveChoice g a.state a.pending c in
    f.gives input ∙ ap (λ n. take n input) (sym (f.asks input))

-- ---- what an input gives

abbrev pub left_behind : ImpreciseEvent → List ℕ → List ℕ
left_behind h input = drop (length (given_to h)) input

pub Fed-split_event : (h : ImpreciseEvent) (events : List Event) (input left : List ℕ)
    → Fed input (seen_of h ++ events) left
    → (given_to h ≡ take (asked_for h) input) × Fed (left_behind h input) events left
Fed-split_event (Precisely event) events input left fed = fed
Fed-split_event (Triggered value) events input left fed = (refl, fed)
Fed-split_event (Waited adds value bytes) events input left fed = (refl, fed)
Fed-split_event (Reported at) events input left fed = fed
Fed-split_event (Lost pc mask) events input left fed = (refl, fed)

pub Fed-join_event : (h : ImpreciseEvent) (events : List Event) (input left : List ℕ)
    → given_to h ≡ take (asked_for h) input
    → Fed (left_behind h input) events left → Fed input (seen_of h ++ events) left
Fed-join_event (Precisely event) events input left gave fed = (gave, fed)
Fed-join_event (Triggered value) events input left gave fed = fed
Fed-join_event (Waited adds value bytes) events input left gave fed = fed
Fed-join_event (Reported at) events input left gave fed = (refl, fed)
Fed-join_event (Lost pc mask) events input left gave fed = fed
