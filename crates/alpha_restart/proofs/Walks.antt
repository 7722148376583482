-- Each choice is a row of the table, and each walk is a run of choices.
use Rattle.std.proofs.Common.{◌≡◌, ◌⊎◌, ◌||◌, not, ℕ, ℤ, Bool, true, false, cond, List, [], ◌∷◌, ◌++◌, map, Option}
use Rattle.std.proofs.Common.{Some, None, refl, sym, ap, subst, ◌∙◌, inl, inr}
use Rattle.alpha_table.specs.declared.op.Cond.{Cond}
use Rattle.alpha_table.specs.declared.columns.MemAccess.{MemAccess}
use Rattle.alpha_table.specs.Class.{Class, operate, trigger, address, load, store, load_locked, store_conditional}
use Rattle.alpha_table.specs.Class.{branch, jump, barrier, idle}
use Rattle.alpha_words.specs.Digits.{low_bytes}
use Rattle.alpha_image.specs.Parts.{Parts}
use Rattle.alpha_seq.specs.State.{Program, State, Event, Barriered, Ends}
use Rattle.alpha_seq.specs.Start.{start}
use Rattle.alpha_seq.specs.Step.{lock_block, matches, next_class, step}
use Rattle.alpha_imprecise.specs.StepResult.{Trap, with_register, Choice, ImpreciseEvent, Precisely, Triggered, Waited}
use Rattle.alpha_imprecise.specs.StepResult.{Reported, Lost, StepResult}
use Rattle.alpha_imprecise.specs.Step.{triggers, triggered, trap_destination, precisely, report, can_wait}
use Rattle.alpha_imprecise.specs.Step.{unpredictable_state, unpredictable_conditional, waited, imprecise_step}
use Rattle.alpha_imprecise.specs.ImpreciseState.{mask_after}
use Rattle.alpha_imprecise.specs.Run.{seen_of, seen, finished, imprecise_start, next_step_result, RunsImprecisely}
use Rattle.alpha_imprecise.specs.Restart.{Agrees, IsRestartable}
use Rattle.alpha_imprecise.proofs.EffectiveChoices.{next_step_result-same}
use Rattle.alpha_restart.specs.Table.{IsChoice, StoresIf, Branches, Executed, untold, unchosen, Row, steps, overflows}
use Rattle.alpha_restart.specs.Table.{reports, waits, IsWalk, walked, WalksAgree}
use Rattle.alpha_restart.proofs.PendingSteps.{can_be_executed}
use Rattle.alpha_restart.proofs.ChoiceRows.{low_bytes_are, report_untold, row_chosen}

-- ---- each choice is a row

executed_if : (at : MemAccess) (ra : ℕ) (s : State) (c : Choice) (flag : Bool) → IsChoice c
    → StoresIf flag at ra s (unpredictable_conditional flag at ra s c)
executed_if at ra s c true small =
    (c.value, small.value, (low_bytes at.bytes c.bytes, low_bytes_are at.bytes c.bytes, refl))
executed_if at ra s c false small = (c.value, small.value, refl)

executed_branch : (condition : Option Cond) (ra : ℕ) (disp : ℤ) (s : State) (c : Choice) → IsChoice c
    → Branches condition ra disp s (unpredictable_state (Some (branch condition ra disp)) s c)
executed_branch None ra disp s c small = (c.value, small.value, refl)
executed_branch (Some condition) ra disp s c small = refl

Executed-unpredictable_state : (o : Option Class) (s : State) (c : Choice) → IsChoice c → can_wait o s ≡ true
    → Executed o s (unpredictable_state o s c)
Executed-unpredictable_state None s c small can = cc
Executed-unpredictable_state (Some (operate op ra src rc)) s c small can = (c.value, small.value, refl)
Executed-unpredictable_state (Some (trigger op ra src rc)) s c small can = (c.value, small.value, refl)
Executed-unpredictable_state (Some (address op ra rb disp)) s c small can = (c.value, small.value, refl)
Executed-unpredictable_state (Some (load extension at ra)) s c small can = (can, (c.value, small.value, refl))
Executed-unpredictable_state (Some (store at ra)) s c small can =
    (can, (low_bytes at.bytes c.bytes, low_bytes_are at.bytes c.bytes, refl))
Executed-unpredictable_state (Some (load_locked extension at ra)) s c small can = (can, (c.value, small.value, refl))
Executed-unpredictable_state (Some (store_conditional at ra)) s c small can =
    (can, executed_if at ra s c (matches s.lock (lock_block at s)) small)
Executed-unpredictable_state (Some (branch condition ra disp)) s c small can =
    executed_branch condition ra disp s c small
Executed-unpredictable_state (Some (jump ra rb)) s c small can = (c.value, small.value, refl)
Executed-unpredictable_state (Some (barrier call)) s c small can = cc
Executed-unpredictable_state (Some idle) s c small can = refl

mask_chosen : (o : Option Class) (mask : ℕ) (adds : Bool)
    → (mask_after o mask adds ≡ mask) ⊎ (mask_after o mask adds ≡ with_register mask (trap_destination o))
mask_chosen o mask true = inr refl
mask_chosen o mask false = inl refl

pub choice_row : (g : Program) (s : State) (pending : Option Trap) (input : List ℕ) (c : Choice) → IsChoice c
    → Row g s pending input (unchosen (imprecise_step g s pending c input))
choice_row g s None input c small = by (triggers (next_class g s.pc) s) refl
  where
    by : (b : Bool) → triggers (next_class g s.pc) s ≡ b
        → Row g s None input
        (unchosen (cond b (triggered g (next_class g s.pc) s c) (precisely (step g (next_class g s.pc) s input))))
    by true e = overflows (record { none = refl; over = e; value = c.value; small = small.value; is = refl })
    by false e = steps (record { none = refl; no_trigger = e; is = refl })
choice_row g s (Some t) input c small = by (c.report || not (can_wait (next_class g s.pc) s)) refl
  where
    by : (b : Bool) → (c.report || not (can_wait (next_class g s.pc) s)) ≡ b
        → Row g s (Some t) input (unchosen (cond b (report g s t) (waited (next_class g s.pc) s t c)))
    by true e = reports (record { t = t; some = refl; is = report_untold g s t })
    by false e = waits (record {
      t = t;
      some = refl;
      after = unpredictable_state (next_class g s.pc) s c;
      executed =
          Executed-unpredictable_state (next_class g s.pc) s c small
          (can_be_executed c.report (can_wait (next_class g s.pc) s) e);
      mask = mask_after (next_class g s.pc) t.mask c.adds;
      adds = mask_chosen (next_class g s.pc) t.mask c.adds;
      is = refl;
    })

-- ---- each walk is a run

finished_untold : (h : ImpreciseEvent) → finished (untold h) ≡ finished h
finished_untold (Precisely event) = refl
finished_untold (Triggered value) = refl
finished_untold (Waited adds value bytes) = refl
finished_untold (Reported at) = refl
finished_untold (Lost pc mask) = refl

seen_untold : (h : ImpreciseEvent) → seen_of (untold h) ≡ seen_of h
seen_untold (Precisely event) = refl
seen_untold (Triggered value) = refl
seen_untold (Waited adds value bytes) = refl
seen_untold (Reported at) = refl
seen_untold (Lost pc mask) = refl

precisely_told : (h : ImpreciseEvent) (event : Event) → untold h ≡ Precisely event → h ≡ Precisely event
precisely_told (Precisely same) event e = e
precisely_told (Triggered value) event e = cc
precisely_told (Waited adds value bytes) event e = cc
precisely_told (Reported at) event e = cc
precisely_told (Lost pc mask) event e = cc

lost_told : (h : ImpreciseEvent) (pc mask : ℕ) → untold h ≡ Lost pc mask → h ≡ Lost pc mask
lost_told (Precisely event) pc mask e = cc
lost_told (Triggered value) pc mask e = cc
lost_told (Waited adds value bytes) pc mask e = cc
lost_told (Reported at) pc mask e = cc
lost_told (Lost at same) pc mask e = e

abbrev last_events : List StepResult → List ImpreciseEvent
last_events ms = map (λ (m : StepResult). m.last_event) ms

-- a run, of which the walk tells all but what was chosen
record Walks (g : Program) (a : StepResult) (ms : List StepResult) : Type 0 where
  steps : List ImpreciseEvent
  at : StepResult
  runs : RunsImprecisely g a steps at
  end : unchosen at ≡ walked (unchosen a) ms
  same : seen steps ≡ seen (last_events ms)

walk_run : (g : Program) (a : StepResult) (ms : List StepResult) → IsWalk g (unchosen a) ms → Walks g a ms
walk_run g a [] h = record { steps = []; at = a; runs = refl; end = refl; same = refl }
walk_run g a (m ∷ ms) h =
    let c = row_chosen g a.state a.pending h.1.0 m h.1.1 in
    let n = imprecise_step g a.state a.pending c.0 h.1.0 in
    let is : next_step_result g a n.last_event ≡ n = next_step_result-same g a c.0 h.1.0 in
    let rest = walk_run g n ms (subst (λ (x : StepResult). IsWalk g x ms) (sym c.2) h.2) in
    let first : seen_of n.last_event ≡ seen_of m.last_event =
    sym (seen_untold n.last_event) ∙ ap (λ (x : StepResult). seen_of x.last_event) c.2 in
    record {
      steps = n.last_event ∷ rest.steps;
      at = rest.at;
      runs = (
        sym (finished_untold a.last_event) ∙ h.0,
        ap (λ (x : StepResult). x.last_event) is,
        subst (λ (x : StepResult). RunsImprecisely g x rest.steps rest.at) (sym is) rest.runs,
      );
      end = rest.end ∙ ap (λ (x : StepResult). walked x ms) c.2;
      same = ap (λ l. l ++ seen rest.steps) first ∙ ap (λ l. seen_of m.last_event ++ l) rest.same;
    }

agree_told : (g : Program) (s : State) (events : List Event) (w : StepResult) → Agrees g s events w
    → Agrees g s events (unchosen w)
agree_told g s events w h = record {
  found = λ pc mask e. h.found pc mask (lost_told w.last_event pc mask e);
  scanned = h.scanned;
  follows = λ none. let f = h.follows none in record {
    last = f.last;
    runs = f.runs;
    unique = f.unique;
    barrier =
        λ traffic pc regs e. f.barrier traffic pc regs (precisely_told w.last_event (Barriered traffic pc regs) e);
    stopped = λ end e. f.stopped end (precisely_told w.last_event (Ends end) e);
    ended = λ end e n. f.ended end (precisely_told w.last_event (Ends end) e) n;
  };
}

pub walks_agree : (image : Parts) → IsRestartable image → WalksAgree image
walks_agree image h = λ completion ms walk.
    let g : Program = record { image = image; completion = completion } in
    let w = walk_run g (imprecise_start (start g)) ms walk in
    subst (λ (x : StepResult). Agrees g (start g) (seen (last_events ms)) x) w.end
    (subst (λ l. Agrees g (start g) l (unchosen w.at)) w.same
    (agree_told g (start g) (seen w.steps) w.at (h completion w.steps w.at w.runs)))
