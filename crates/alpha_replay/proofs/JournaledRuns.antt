-- The items that are gathered of a run that words make list it.
use Rattle.std.specs.Prelude.{nat_le}
use Rattle.std.proofs.Common.{◌≡◌, ◌<◌, ◌≤◌, ◌+◌, ◌/◌, ◌%◌, ◌&&◌, ◌||◌, not, ℕ, zero, suc, Bool, true, false, cond, eqb}
use Rattle.std.proofs.Common.{List, [], ◌∷◌, ◌++◌, drop, Option, Some, None, Ok, refl, sym, ap, subst, ◌∙◌, ⊎_elim}
use Rattle.std.proofs.Common.{add-one, arith}
use Rattle.std.proofs.lemmas.Bool.{cases_lt, or_parts, not-false}
use Rattle.std.proofs.Math.Nat.{eq-or-lt_of_le}
use Rattle.std.specs.Option.{option_and_then}
use Rattle.alpha_table.specs.Class.{Class}
use Rattle.alpha_values.specs.TrapOp.{stops}
use Rattle.alpha_trap.specs.Scan.{scan}
use Rattle.alpha_seq.specs.declared.end.End.TheVariants as ends
use Rattle.alpha_seq.specs.State.{Program, State, Event, Went, Barriered, Overflowed, Ends}
use Rattle.alpha_seq.specs.Step.{next_class, step}
use Rattle.alpha_imprecise.specs.StepResult.{Trap, Choice, Precisely, Reported, StepResult, step_result}
use Rattle.alpha_imprecise.specs.Step.{triggers, triggered, precisely, address_at, completed, can_wait, report, waited}
use Rattle.alpha_imprecise.specs.Step.{imprecise_step_at, imprecise_step, adds_here}
use Rattle.alpha_imprecise.specs.Run.{finished, choice_of as choice_by}
use Rattle.alpha_imprecise.specs.Chosen.{most_waited, first_word, must_report, reporting, triggering, executing}
use Rattle.alpha_imprecise.specs.Chosen.{draw_at, draw, chosen}
use Rattle.alpha_imprecise.specs.ChosenRun.{ChosenRun, advance_chosen_run, steps_of_chosen_run}
use Rattle.alpha_imprecise.proofs.ChoicesMade.{is_quiet, step-is_quiet}
use Rattle.alpha_imprecise.proofs.ReportLandings.{report_at}
use Rattle.alpha_imprecise.proofs.EffectiveChoices.{imprecise_step-HasEffectiveChoice}
use Rattle.alpha_imprecise.proofs.PendingTraps.{advance_chosen_run-going}
use Rattle.alpha_replay.specs.declared.item.Item.{Item}
use Rattle.alpha_replay.specs.declared.item.Item.TheVariants as items
use Rattle.alpha_replay.specs.declared.moves.Move.{Move}
use Rattle.alpha_replay.specs.declared.moves.Move.TheVariants.{One, Trips, Waits, Reports}
use Rattle.alpha_replay.specs.Events.{move_of}
use Rattle.alpha_replay.specs.Moves.{choice_of, may_add, move_applies}
use Rattle.alpha_replay.specs.Listed.{Played, played_by, move, units, item, listed_then, listed_from}
use Rattle.alpha_replay.specs.GatheredItems.{GatheredItems, no_moves, closed_by, closed, with_item, gathered_by}
use Rattle.alpha_replay.specs.GatheredItems.{gathered_from}
use Rattle.alpha_replay.specs.Journaled.{has_stopped, advance_journaled, steps_journaled, IsJournaled}
use Rattle.alpha_replay.proofs.RecordedSteps.{gathered-append}

-- ---- the move that words make is possible, and is their step

-- The move that coming words make of a step. A trigger has its word as its value. A word that is executed while a trap
-- is pending has the second of its two words as its value, and adds to the mask where the first one says so and the
-- word may.
abbrev noted_at : Option Class → State → Option Trap → ℕ → List ℕ → Move
noted_at o s None waited words = cond (triggers o s) (Trips (first_word words)) One
noted_at o s (Some t) waited words =
    cond (must_report o s waited) Reports
    (cond (eqb (first_word words % 4) 0) Reports
    (Waits (eqb (first_word words / 4 % 2) 1 && adds_here o) (first_word (drop 1 words))))

may_so : (o : Option Class) (a : Bool) (value : ℕ) → may_add o (Waits (a && adds_here o) value) ≡ true
may_so o false value = refl
may_so o true value = by (adds_here o) refl
  where
    by : (b : Bool) → adds_here o ≡ b → may_add o (Waits b value) ≡ true
    by true e = e
    by false e = refl

suits_at : (o : Option Class) (s : State) (p : Option Trap) (n : ℕ) (words : List ℕ)
    → move_applies o s p n (noted_at o s p n words) ≡ true
suits_at o s None n words = by (triggers o s) refl
  where
    by : (b : Bool) → triggers o s ≡ b → move_applies o s None n (cond b (Trips (first_word words)) One) ≡ true
    by true e = e
    by false e = ap (λ (b : Bool). not b) e
suits_at o s (Some t) n words = by (must_report o s n) refl
  where
    drawn : (b : Bool) → must_report o s n ≡ false
        → move_applies o s (Some t) n
        (cond b Reports (Waits (eqb (first_word words / 4 % 2) 1 && adds_here o) (first_word (drop 1 words))))
        ≡ true
    drawn true e = refl
    drawn false e =
        ap (λ (x : Bool). x && not (must_report o s n))
        (may_so o (eqb (first_word words / 4 % 2) 1) (first_word (drop 1 words)))
        ∙ ap (λ (x : Bool). not x) e

    by : (b : Bool) → must_report o s n ≡ b
        → move_applies o s (Some t) n (cond b Reports (cond (eqb (first_word words % 4) 0) Reports
        (Waits (eqb (first_word words / 4 % 2) 1 && adds_here o) (first_word (drop 1 words)))))
        ≡ true
    by true e = refl
    by false e = drawn (eqb (first_word words % 4) 0) e

-- a step is of the move, and was chosen as the move chooses
record IsMove (m : Move) (w : StepResult) : Type 0 where
  move : m ≡ move_of w.last_event
  choice : choice_of (move_of w.last_event) ≡ choice_by w.last_event

quiet_move : (s : State) (event : Event) → is_quiet event ≡ true → IsMove One (step_result s None (Precisely event))
quiet_move s Went q = record { move = refl; choice = refl }
quiet_move s (Barriered traffic pc regs) q = record { move = refl; choice = refl }
quiet_move s (Overflowed at) q = cc
quiet_move s (Ends (ends.Exit value)) q = record { move = refl; choice = refl }
quiet_move s (Ends (ends.Signal code pc)) q = record { move = refl; choice = refl }
quiet_move s (Ends (ends.Fetch pc)) q = record { move = refl; choice = refl }
quiet_move s (Ends (ends.Access pc addr)) q = record { move = refl; choice = refl }
quiet_move s (Ends (ends.Align pc addr)) q = record { move = refl; choice = refl }
quiet_move s (Ends (ends.Overflow pc)) q = cc

lands_move : (g : Program) (s : State) (at : ℕ) (b : Bool)
    → IsMove Reports (cond b (step_result (record s { pc = address_at g.image at }) None
    (Precisely (Ends (ends.Overflow (address_at g.image at)))))
    (step_result (completed g s at) None (Reported (address_at g.image at))))
lands_move g s at true = record { move = refl; choice = refl }
lands_move g s at false = record { move = refl; choice = refl }

found_move : (g : Program) (s : State) (t : Trap) (found : Option ℕ) → IsMove Reports (report_at g s t found)
found_move g s t None = record { move = refl; choice = refl }
found_move g s t (Some at) = lands_move g s at (stops g.completion)

IsMove-noted : (g : Program) (o : Option Class) (s : State) (p : Option Trap) (n : ℕ) (words input : List ℕ)
    → IsMove (noted_at o s p n words) (imprecise_step_at g o s p (draw_at o s p n words).choice input)
IsMove-noted g o s None n words input = by (triggers o s) refl
  where
    by : (b : Bool) → triggers o s ≡ b
        → IsMove (cond b (Trips (first_word words)) One)
        (cond b (triggered g o s (cond b (triggering (first_word words)) (reporting 0)).choice)
        (precisely (step g o s input)))
    by true e = record { move = refl; choice = refl }
    by false e = quiet_move (step g o s input).state (step g o s input).event (step-is_quiet g o s input e)
IsMove-noted g o s (Some t) n words input = by (must_report o s n) refl (eqb (first_word words % 4) 0)
  where
    by : (m : Bool) → must_report o s n ≡ m → (c : Bool)
        → IsMove (cond m Reports
        (cond c Reports (Waits (eqb (first_word words / 4 % 2) 1 && adds_here o) (first_word (drop 1 words)))))
        (imprecise_step_at g o s (Some t)
        (cond m (reporting 0) (cond c (reporting 1) (executing (first_word words) (first_word (drop 1 words))))).choice
        input)
    by true e c = found_move g s t (scan g.image s.pc t.mask)
    by false e true = found_move g s t (scan g.image s.pc t.mask)
    by false e false =
        subst
        (λ (b : Bool). IsMove (Waits (eqb (first_word words / 4 % 2) 1 && adds_here o) (first_word (drop 1 words)))
        (cond (not b) (report g s t) (waited o s t (executing (first_word words) (first_word (drop 1 words))).choice)))
        (sym (not-false (can_wait o s) (or_parts (not (can_wait o s)) (nat_le most_waited n) e).0))
        (record { move = refl; choice = refl })

-- a run that is made, as one that is played
abbrev pub played_in : ChosenRun → Played
played_in k = record { run = k.run; waited = k.waited }

-- the next step
abbrev next_chosen : Program → ChosenRun → StepResult
next_chosen g k = chosen g k.run.at.state k.run.at.pending k.waited k.words k.run.left

pub move-advance_chosen_run : (g : Program) (k : ChosenRun) → finished k.run.at.last_event ≡ false
    → move g (played_in k) (move_of (next_chosen g k).last_event) ≡ Some (played_in (advance_chosen_run g k))
move-advance_chosen_run g k going =
    let o = next_class g k.run.at.state.pc in
    let a = k.run.at in
    let d = draw g a.state a.pending k.waited k.words in
    let m = next_chosen g k in
    let is = IsMove-noted g o a.state a.pending k.waited k.words k.run.left in
    let fits : move_applies o a.state a.pending k.waited (move_of m.last_event) ≡ true =
    ap (λ (x : Move). move_applies o a.state a.pending k.waited x) (sym is.move)
    ∙ suits_at o a.state a.pending k.waited k.words in
    let same : imprecise_step g a.state a.pending (choice_of (move_of m.last_event)) k.run.left ≡ m =
    ap (λ (c : Choice). imprecise_step g a.state a.pending c k.run.left) is.choice
    ∙ (imprecise_step-HasEffectiveChoice g a.state a.pending d.choice).again k.run.left in
    let to : Played =
    played_by (played_in k) (imprecise_step g a.state a.pending (choice_of (move_of m.last_event)) k.run.left) in
    ap (λ (b : Bool). cond (not b && move_applies o a.state a.pending k.waited (move_of m.last_event)) (Some to) None)
    going
    ∙ (ap (λ (b : Bool). cond b (Some to) None) fits
    ∙ (ap (λ (x : StepResult). Some (played_by (played_in k) x)) same
    ∙ ap (λ (x : ChosenRun). Some (played_in x)) (sym (advance_chosen_run-going g k going))))

-- ---- one item more

-- from one run the items and the steps behind them lead to another
pub record ListsRun (g : Program) (p : Played) (k : GatheredItems) (q : Played) : Type 0 where
  pub mid : Played
  pub listed : (n : ℕ) → listed_from g n k.items p ≡ Ok mid
  pub ones : units g k.ones mid ≡ Some q

then_ok : (g : Program) (n : ℕ) (is : List Item) (i : Item) (x : Option Played) (q r : Played)
    → ((y : Played) → listed_from g (n + 1) is y ≡ Ok q → listed_from g (n + 1) (is ++ i ∷ []) y ≡ Ok r)
    → listed_then n (λ y. listed_from g (n + 1) is y) x ≡ Ok q
    → listed_then n (λ y. listed_from g (n + 1) (is ++ i ∷ []) y) x ≡ Ok r
then_ok g n is i None q r more e = absurd cc
then_ok g n is i (Some y) q r more e = more y e

listed_more : (g : Program) (n : ℕ) (is : List Item) (i : Item) (p q r : Played) → listed_from g n is p ≡ Ok q
    → item g i q ≡ Some r → listed_from g n (is ++ i ∷ []) p ≡ Ok r
listed_more g n [] i p q r e f =
    let same : p ≡ q = cc in
    ap (λ (x : Option Played). listed_then n (λ y. Ok y) x) (ap (λ (y : Played). item g i y) same ∙ f)
listed_more g n (j ∷ is) i p q r e f = then_ok g n is i (item g j p) q r (λ y h. listed_more g (n + 1) is i y q r h f) e

-- as items alone
pub ListsRun-closed : (g : Program) (p q : Played) (k : GatheredItems) → ListsRun g p k q → (n : ℕ)
    → listed_from g n (closed k) p ≡ Ok q
ListsRun-closed g p q k h n = by k.ones h.ones
  where
    by : (ones : ℕ) → units g ones h.mid ≡ Some q → listed_from g n (closed_by k.items ones) p ≡ Ok q
    by zero e = let same : h.mid ≡ q = cc in h.listed n ∙ ap (λ (x : Played). Ok x) same
    by (suc ones) e = listed_more g n k.items (items.Units (suc ones)) p h.mid q (h.listed n) e

lists_item : (g : Program) (p q r : Played) (k : GatheredItems) (i : Item) → ListsRun g p k q → item g i q ≡ Some r
    → ListsRun g p (with_item k i) r
lists_item g p q r k i h e = record {
  mid = r;
  listed = λ n. listed_more g n (closed k) i p q r (ListsRun-closed g p q k h n) e;
  ones = refl;
}

pub ListsRun-next_move : (g : Program) (p q r : Played) (k : GatheredItems) (m : Move) → ListsRun g p k q
    → move g q m ≡ Some r
    → ListsRun g p (gathered_by k m) r
ListsRun-next_move g p q r k One h e = record {
  mid = h.mid;
  listed = h.listed;
  ones =
      ap (λ (n : ℕ). units g n h.mid) (add-one k.ones)
      ∙ (ap (λ (x : Option Played). option_and_then (λ (y : Played). move g y One) x) h.ones ∙ e);
}
ListsRun-next_move g p q r k (Trips value) h e = lists_item g p q r k (items.Trigger value) h e
ListsRun-next_move g p q r k (Waits adds value) h e = lists_item g p q r k (items.Wait adds value) h e
ListsRun-next_move g p q r k Reports h e = lists_item g p q r k items.Report h e

-- ---- so many steps

pub going_of : (a b c : Bool) → (a || (b || c)) ≡ false → b ≡ false
going_of false false c e = refl
going_of false true c e = cc
going_of true b c e = absurd cc

module _ (n : ℕ) (g : Program) (from : ChosenRun) where
  step_lists : (k : ChosenRun) → ListsRun g (played_in from) (gathered_from no_moves k.run.steps) (played_in k)
      → ListsRun g (played_in from) (gathered_from no_moves (advance_journaled n g k).run.steps)
      (played_in (advance_journaled n g k))
  step_lists k h = by (has_stopped n g.completion k) refl
    where
      by : (b : Bool) → has_stopped n g.completion k ≡ b
          → ListsRun g (played_in from) (gathered_from no_moves (cond b k (advance_chosen_run g k)).run.steps)
          (played_in (cond b k (advance_chosen_run g k)))
      by true e = h
      by false e =
          let going = going_of _ _ _ e in
          let next = next_chosen g k in
          let steps : (advance_chosen_run g k).run.steps ≡ k.run.steps ++ next.last_event ∷ [] =
          ap (λ (j : ChosenRun). j.run.steps) (advance_chosen_run-going g k going) in
          subst (λ (x : GatheredItems). ListsRun g (played_in from) x (played_in (advance_chosen_run g k)))
          (sym (ap (gathered_from no_moves) steps ∙ gathered-append no_moves k.run.steps (next.last_event ∷ [])))
          (ListsRun-next_move g (played_in from) (played_in k) (played_in (advance_chosen_run g k))
          (gathered_from no_moves k.run.steps) (move_of next.last_event) h (move-advance_chosen_run g k going))

  pub steps_list : (steps : ℕ) → ListsRun g (played_in from) (gathered_from no_moves from.run.steps) (played_in from)
      → ListsRun g (played_in from) (gathered_from no_moves (steps_journaled n g from steps).run.steps)
      (played_in (steps_journaled n g from steps))
  steps_list zero h = h
  steps_list (suc steps) h = step_lists (steps_journaled n g from steps) (steps_list steps h)

-- ---- where such a run stops

module _ (n : ℕ) (g : Program) (from : ChosenRun) where
  stays_then : (a : ℕ) (k : ChosenRun) → has_stopped n g.completion (steps_journaled n g from a) ≡ true
      → k ≡ steps_journaled n g from a → advance_journaled n g k ≡ steps_journaled n g from a
  stays_then a k e same =
      ap (advance_journaled n g) same
      ∙ ap (λ (b : Bool). cond b (steps_journaled n g from a) (advance_chosen_run g (steps_journaled n g from a))) e

  pub stays_stopped : (a b : ℕ) → a ≤ b → has_stopped n g.completion (steps_journaled n g from a) ≡ true
      → steps_journaled n g from b ≡ steps_journaled n g from a
  stays_stopped a zero low e = let same : 0 ≡ a = omega (arith, low) in ap (steps_journaled n g from) same
  stays_stopped a (suc b) low e =
      ⊎_elim
      (λ (same : a ≡ suc b). ap (steps_journaled n g from) (sym same))
      (λ (below : a < suc b). stays_then a (steps_journaled n g from b) e (stays_stopped a b (omega (arith, below)) e))
      (eq-or-lt_of_le low)

  same_place : (a b : ℕ) → has_stopped n g.completion (steps_journaled n g from a) ≡ true
      → has_stopped n g.completion (steps_journaled n g from b) ≡ true
      → steps_journaled n g from a ≡ steps_journaled n g from b
  same_place a b e f =
      ⊎_elim
      (λ (below : a < b). sym (stays_stopped a b (omega (arith, below)) e))
      (λ (low : b ≤ a). stays_stopped b a low f)
      (cases_lt a b)

  pub IsJournaled-single : (k l : ChosenRun) → IsJournaled n g from k → IsJournaled n g from l → k ≡ l
  IsJournaled-single k l one two =
      sym one.reached
      ∙ (same_place one.steps two.steps (ap (has_stopped n g.completion) one.reached ∙ one.stopped)
      (ap (has_stopped n g.completion) two.reached ∙ two.stopped)
      ∙ two.reached)

  -- the steps are those of the run
  pub steps_run : (steps : ℕ) → (m : ℕ) × (steps_journaled n g from steps ≡ steps_of_chosen_run g from m)
  steps_run zero = (0, refl)
  steps_run (suc steps) = by (has_stopped n g.completion (steps_journaled n g from steps)) (steps_run steps)
    where
      by : (b : Bool) → (m : ℕ) × (steps_journaled n g from steps ≡ steps_of_chosen_run g from m)
          → (m : ℕ)
          × (cond b (steps_journaled n g from steps) (advance_chosen_run g (steps_journaled n g from steps))
          ≡ steps_of_chosen_run g from m)
      by true h = h
      by false h = (suc h.0, ap (advance_chosen_run g) h.1)

  pub journaled_run : (k : ChosenRun) → IsJournaled n g from k → (m : ℕ) × (k ≡ steps_of_chosen_run g from m)
  journaled_run k is = let h = steps_run is.steps in (h.0, sym is.reached ∙ h.1)
