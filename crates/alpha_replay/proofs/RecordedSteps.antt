-- What a tape has of steps in a row is what the journal of these steps has.
use Rattle.std.specs.Prelude.{⊤}
use Rattle.std.proofs.Common.{◌≡◌, ◌≤◌, ◌+◌, ◌==◌, ◌&&◌, ◌||◌, not, ℕ, Bool, true, false, List, [], ◌∷◌, ◌++◌, Option}
use Rattle.std.proofs.Common.{Some, None, is_none, refl, sym, ap, subst, ◌∙◌, append_assoc, append-nil, arith}
use Rattle.std.proofs.lemmas.Bool.{ne_eqb}
use Rattle.std.proofs.lemmas.Grind.{flat_map-append}
use Rattle.alpha_words.specs.declared.Completion.{Completion}
use Rattle.alpha_pal.specs.declared.pal_end.Passed.{Passed}
use Rattle.alpha_seq.specs.declared.end.End.TheVariants as ends
use Rattle.alpha_seq.specs.State.{Program, Event, Went, Barriered, Overflowed, Ends}
use Rattle.alpha_seq.specs.Run.{given, taken, output}
use Rattle.alpha_seq.specs.Machine.{program_of}
use Rattle.alpha_seq.specs.StepLabel.{StepLabel}
use Rattle.alpha_imprecise.specs.declared.pending.Pending.{Pending}
use Rattle.alpha_imprecise.specs.StepResult.{ImpreciseEvent, Precisely, Triggered, Waited, Reported, Lost, StepResult}
use Rattle.alpha_imprecise.specs.Run.{seen_of, seen, finished, next_step_result, RunsImprecisely, unit_of, units}
use Rattle.alpha_imprecise.specs.ImpreciseState.{ImpreciseState, trap_in, step_result_of}
use Rattle.alpha_imprecise.specs.ImpreciseStepEffect.{shown_as, ImpreciseStep}
use Rattle.alpha_imprecise.proofs.ImpreciseSequence.{seen_steps-append}
use Rattle.alpha_run.specs.Row.{Row, AreGoing, units_of}
use Rattle.alpha_run.proofs.StepRows.{output-append}
use Rattle.alpha_run.proofs.ImpreciseRuns.{finished-is_over, step_is, steps_of}
use Rattle.alpha_replay.specs.Events.{move_of, move_by, took_by, put_by}
use Rattle.alpha_replay.specs.GatheredItems.{GatheredItems, no_moves, gathered_by, gathered_from}
use Rattle.alpha_replay.specs.Journaled.{stops_at, GoesOver}
use Rattle.alpha_replay.specs.BuilderState.{BuilderState, builder_state, builder_fits, built_by}
use Rattle.alpha_replay.proofs.StepBytes.{passed-took}

-- ---- one step

pub move_seen : (passed : Passed) (h : ImpreciseEvent) → move_by (shown_as passed h) ≡ move_of h
move_seen passed (Precisely Went) = refl
move_seen passed (Precisely (Barriered traffic pc regs)) = refl
move_seen passed (Precisely (Overflowed at)) = refl
move_seen passed (Precisely (Ends (ends.Exit value))) = refl
move_seen passed (Precisely (Ends (ends.Signal code pc))) = refl
move_seen passed (Precisely (Ends (ends.Fetch pc))) = refl
move_seen passed (Precisely (Ends (ends.Access pc addr))) = refl
move_seen passed (Precisely (Ends (ends.Align pc addr))) = refl
move_seen passed (Precisely (Ends (ends.Overflow pc))) = refl
move_seen passed (Triggered value) = refl
move_seen passed (Waited adds value bytes) = refl
move_seen passed (Reported at) = refl
move_seen passed (Lost pc mask) = refl

pub gathered-append : (k : GatheredItems) (xs ys : List ImpreciseEvent)
    → gathered_from k (xs ++ ys) ≡ gathered_from (gathered_from k xs) ys
gathered-append k [] ys = refl
gathered-append k (x ∷ xs) ys = gathered-append (gathered_by k (move_of x)) xs ys

-- the tape of steps
abbrev pub builder_of : List ImpreciseEvent → BuilderState
builder_of steps = builder_state (taken (seen steps)) (output (seen steps)) (gathered_from no_moves steps)

abbrev pub built_on : BuilderState → StepLabel → BuilderState
built_on t p = built_by t p.event p.core

pub builder_more : (steps : List ImpreciseEvent) (p : StepLabel) (old new : ImpreciseState)
    → (is : ImpreciseStep old p new) → builder_of (steps ++ is.step.last_event ∷ []) ≡ built_on (builder_of steps) p
builder_more steps p old new is =
    let h = is.step.last_event in
    let all = steps ++ h ∷ [] in
    let both = passed-took p.event p.core.memory (taken p.seen) (output p.seen) is.step.passes in
    let events : seen all ≡ seen steps ++ p.seen = seen_steps-append steps (h ∷ [])
    ∙ ap (λ (l : List Event). seen steps ++ l) (append-nil (seen_of h) ∙ sym is.step.seen) in
    let took : taken (seen all) ≡ taken (seen steps) ++ took_by p.event p.core.memory =
    ap taken events ∙ (flat_map-append given (seen steps) p.seen ∙ ap (λ l. taken (seen steps) ++ l) both.0) in
    let put : output (seen all) ≡ output (seen steps) ++ put_by p.event p.core.memory =
    ap output events ∙ (output-append (seen steps) p.seen ∙ ap (λ l. output (seen steps) ++ l) both.1) in
    let moves : gathered_from no_moves all ≡ gathered_by (gathered_from no_moves steps) (move_by p.event) =
    gathered-append no_moves steps (h ∷ [])
    ∙ ap (gathered_by (gathered_from no_moves steps))
    (sym (move_seen is.step.passed h) ∙ ap move_by (sym is.step.event)) in
    ap (λ l. builder_state l (output (seen all)) (gathered_from no_moves all)) took
    ∙ (ap (λ l. builder_state (taken (seen steps) ++ took_by p.event p.core.memory) l (gathered_from no_moves all)) put
    ∙ ap (builder_state (taken (seen steps) ++ took_by p.event p.core.memory)
    (output (seen steps) ++ put_by p.event p.core.memory))
    moves)

-- ---- where the run goes on

-- it stops where the tape doesn't fit, where it is over and where it has used its units with nothing pending
open_by : (n used : ℕ) (pending : Option Pending) → used + unit_of (trap_in pending) ≤ n
    → (is_none (trap_in pending) && (used == n)) ≡ false
open_by n used None room = ne_eqb used n (λ (same : used ≡ n). omega arith)
open_by n used (Some p) room = refl

pub stops_at-going : (n used : ℕ) (completion : Completion) (before : List ImpreciseEvent) (from : ImpreciseEvent)
    (w : ImpreciseState)
    → builder_fits (builder_of before) ≡ true → finished from ≡ false → used + unit_of (trap_in w.pending) ≤ n
    → stops_at n completion used before (step_result_of w from) ≡ false
stops_at-going n used completion before from w fits going room =
    ap (λ (b : Bool). not b || (finished from || (is_none (trap_in w.pending) && (used == n)))) fits
    ∙ (ap (λ (b : Bool). b || (is_none (trap_in w.pending) && (used == n))) going ∙ open_by n used w.pending room)

-- ---- steps in a row

abbrev pub built_over : BuilderState → List StepLabel → BuilderState
built_over t [] = t
built_over t (p ∷ ps) = built_over (built_on t p) ps

-- each of them fits
abbrev pub AllFit : BuilderState → List StepLabel → Type 0
AllFit t [] = ⊤
AllFit t (p ∷ ps) = (builder_fits (built_on t p) ≡ true) × AllFit (built_on t p) ps

pub builder_fits-built_over : (t : BuilderState) (ps : List StepLabel) → builder_fits t ≡ true → AllFit t ps
    → builder_fits (built_over t ps) ≡ true
builder_fits-built_over t [] fits all = fits
builder_fits-built_over t (p ∷ ps) fits all = builder_fits-built_over (built_on t p) ps all.0 all.1

pub builder_over : (before : List ImpreciseEvent) (ps : List StepLabel) (old new : ImpreciseState)
    → (row : Row ImpreciseStep old ps new)
    → built_over (builder_of before) ps ≡ builder_of (before ++ steps_of old new ps row)
builder_over before [] old new row = ap builder_of (sym (append-nil before))
builder_over before (p ∷ ps) old new row =
    let h = row.1.step.last_event in
    ap (λ (t : BuilderState). built_over t ps) (sym (builder_more before p old row.0 row.1))
    ∙ (builder_over (before ++ h ∷ []) ps row.0 new row.2
    ∙ ap builder_of (append_assoc before (h ∷ []) (steps_of row.0 new ps row.2)))

pub going_row-GoesOver : (n : ℕ) (g : Program) (used : ℕ) (before : List ImpreciseEvent) (from : ImpreciseEvent)
    (old new : ImpreciseState) (ps : List StepLabel)
    → finished from ≡ false → program_of old.machine ≡ g → builder_fits (builder_of before) ≡ true
    → AllFit (builder_of before) ps → AreGoing ps
    → (row : Row ImpreciseStep old ps new) → used + units_of ps ≤ n
    → GoesOver n g used before (step_result_of old from) (steps_of old new ps row)
going_row-GoesOver n g used before from old new [] going program fits all goes row room = tt
going_row-GoesOver n g used before from old new (p ∷ ps) going program fits all goes row room =
    let mid = row.0 in
    let is = row.1 in
    let h = is.step.last_event in
    let more = used + unit_of (trap_in old.pending) in
    let tape = builder_more before p old mid is in
    let one = stops_at-going n used g.completion before from old fits going (omega (arith, is.step.units, room)) in
    let rest = going_row-GoesOver n g more (before ++ h ∷ []) h mid new ps (finished-is_over old p mid is ∙ goes.0)
    (is.step.program ∙ program)
    (subst (λ (t : BuilderState). builder_fits t ≡ true) (sym tape) all.0)
    (subst (λ (t : BuilderState). AllFit t ps) (sym tape) all.1) goes.1 row.2 (omega (arith, is.step.units, room)) in (
      one,
      subst (λ (m : StepResult). GoesOver n g more (before ++ h ∷ []) m (steps_of mid new ps row.2))
          (sym (step_is g p old mid program is from)) rest,
    )

-- and before one step more
pub goes-last : (n : ℕ) (g : Program) (used : ℕ) (before : List ImpreciseEvent) (a : StepResult)
    (hs : List ImpreciseEvent) (b : StepResult) (h : ImpreciseEvent)
    → RunsImprecisely g a hs b → GoesOver n g used before a hs
    → stops_at n g.completion (used + units g a hs) (before ++ hs) b ≡ false → GoesOver n g used before a (hs ++ h ∷ [])
goes-last n g used before a [] b h run goes on =
    let none : used + 0 ≡ used = omega arith in (
      ap (stops_at n g.completion used before) run
          ∙ (ap (λ (l : List ImpreciseEvent). stops_at n g.completion used l b) (sym (append-nil before))
          ∙ (ap (λ k. stops_at n g.completion k (before ++ []) b) (sym none) ∙ on)),
      tt,
    )
goes-last n g used before a (x ∷ hs) b h run goes on =
    let more : (used + unit_of a.pending) + units g (next_step_result g a x) hs
    ≡ used + (unit_of a.pending + units g (next_step_result g a x) hs) =
    omega arith in (
      goes.0,
      goes-last n g (used + unit_of a.pending) (before ++ x ∷ []) (next_step_result g a x) hs b h run.2 goes.1
          (ap (λ (l : List ImpreciseEvent).
          stops_at n g.completion ((used + unit_of a.pending) + units g (next_step_result g a x) hs) l b)
          (append_assoc before (x ∷ []) hs)
          ∙ (ap (λ k. stops_at n g.completion k (before ++ x ∷ hs) b) more ∙ on)),
    )
