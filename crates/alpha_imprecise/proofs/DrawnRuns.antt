-- The runs that coming words make over an input are the lists of steps that these words choose and the input feeds.
use Rattle.std.proofs.Common.{◌≡◌, ◌<◌, ◌≤◌, ◌+◌, ◌-◌, ◌||◌, ℕ, zero, suc, Bool, true, false, cond, List, [], ◌∷◌, ◌++◌}
use Rattle.std.proofs.Common.{length, drop, Option, None, is_none, refl, sym, ap, subst, ◌∙◌, ⊎_elim, append_assoc}
use Rattle.std.proofs.Common.{append-nil, arith}
use Rattle.std.proofs.lemmas.Bool.{cases_lt, cases_Bool}
use Rattle.alpha_seq.specs.State.{Program, State, Went}
use Rattle.alpha_seq.specs.Run.{Fed}
use Rattle.alpha_seq.proofs.RunSequence.{Fed-append}
use Rattle.alpha_imprecise.specs.StepResult.{Trap, ImpreciseEvent, Precisely, StepResult, step_result}
use Rattle.alpha_imprecise.specs.Run.{seen, finished, given_to, imprecise_start, next_step_result, RunsImprecisely}
use Rattle.alpha_imprecise.specs.Run.{unit_of, units, ImpreciseRun, RunsOver}
use Rattle.alpha_imprecise.specs.Used.{HasUsed}
use Rattle.alpha_imprecise.specs.Chosen.{Draw, draw, chosen, waited_after, waits_behind, Draws}
use Rattle.alpha_imprecise.specs.ChosenRun.{ChosenRun, begun, advance_chosen_run, steps_of_chosen_run, chosen_run}
use Rattle.alpha_imprecise.specs.ChosenRun.{most_words}
use Rattle.alpha_imprecise.proofs.ChosenRuns.{chosen_run-keeps}
use Rattle.alpha_imprecise.proofs.PendingTraps.{stepped_chosen_run, advance_chosen_run-going, advance_chosen_run-over}
use Rattle.alpha_imprecise.proofs.PendingTraps.{is_none-true, made_is}
use Rattle.alpha_imprecise.proofs.StepBounds.{steps-first, steps-then, IsWithin-pending}
use Rattle.alpha_imprecise.proofs.EffectiveChoices.{next_step_result-by, imprecise_step-given_input}
use Rattle.alpha_imprecise.proofs.EffectiveChoices.{imprecise_step-over_input, left_behind, Fed-split_event}
use Rattle.alpha_imprecise.proofs.ImpreciseSequence.{seen_steps-append, RunsImprecisely-append, RunsImprecisely-one}
use Rattle.alpha_imprecise.proofs.ImpreciseSequence.{units_of_steps-append, Fed-next_event}
use Rattle.alpha_imprecise.proofs.WordDraws.{words_drawn, draws_most}

-- ---- what a making has done

-- a making by its parts
abbrev pub chosen_run_with : StepResult → List ImpreciseEvent → List ℕ → ℕ → ℕ → List ℕ → ℕ → ChosenRun
chosen_run_with at steps left used waited words count =
    record {
      run = record { at = at; steps = steps; left = left; units = used };
      waited = waited;
      words = words;
      count = count;
    }

pub record IsMade (g : Program) (a : StepResult) (input words : List ℕ) (waited : ℕ) (k : ChosenRun) : Type 0 where
  pub runs : RunsImprecisely g a k.run.steps k.run.at
  pub fed : Fed input (seen k.run.steps) k.run.left
  pub used : units g a k.run.steps ≡ k.run.units
  pub draws : Draws g a waited words k.run.steps k.words
  pub count : words_drawn g a waited words k.run.steps ≡ k.count
  pub waits : waits_behind k.run.steps waited ≡ k.waited

module _ (g : Program) where
  pub Draws-last : (hs : List ImpreciseEvent) (a b : StepResult)
      (waited w : ℕ) (words mid : List ℕ) (h : ImpreciseEvent)
      → RunsImprecisely g a hs b → Draws g a waited words hs mid
      → waits_behind hs waited ≡ w → (chosen g b.state b.pending w mid (given_to h)).last_event ≡ h
      → Draws g a waited words (hs ++ h ∷ []) (drop (draw g b.state b.pending w mid).count mid)
  Draws-last [] a b waited w words mid h run draws same last =
      subst (λ (m : StepResult). Draws g m waited words (h ∷ []) (drop (draw g b.state b.pending w mid).count mid))
      (sym run)
      (subst (λ n. Draws g b n words (h ∷ []) (drop (draw g b.state b.pending w mid).count mid)) (sym same)
      (subst (λ l. Draws g b w l (h ∷ []) (drop (draw g b.state b.pending w mid).count mid)) (sym draws) (last, refl)))
  Draws-last (x ∷ hs) a b waited w words mid h run draws same last = (
    draws.0,
    Draws-last hs (next_step_result g a x) b (waited_after x waited) w
        (drop (draw g a.state a.pending waited words).count words) mid h run.2 draws.1 same last,
  )

  words_drawn-last : (hs : List ImpreciseEvent) (a b : StepResult) (waited w : ℕ) (words mid : List ℕ)
      (h : ImpreciseEvent)
      → RunsImprecisely g a hs b → Draws g a waited words hs mid
      → waits_behind hs waited ≡ w
      → words_drawn g a waited words (hs ++ h ∷ [])
      ≡ words_drawn g a waited words hs + (draw g b.state b.pending w mid).count
  words_drawn-last [] a b waited w words mid h run draws same =
      let here = ap (λ (m : StepResult). (draw g m.state m.pending waited words).count) run
      ∙ (ap (λ n. (draw g b.state b.pending n words).count) same
      ∙ ap (λ l. (draw g b.state b.pending w l).count) draws) in
      omega arith
  words_drawn-last (x ∷ hs) a b waited w words mid h run draws same =
      let rest = words_drawn-last hs (next_step_result g a x) b (waited_after x waited) w
      (drop (draw g a.state a.pending waited words).count words) mid h run.2 draws.1 same in
      omega arith

  pub waits-last : (hs : List ImpreciseEvent) (waited : ℕ) (h : ImpreciseEvent)
      → waits_behind (hs ++ h ∷ []) waited ≡ waited_after h (waits_behind hs waited)
  waits-last [] waited h = refl
  waits-last (x ∷ hs) waited h = waits-last hs (waited_after x waited) h

  module _ (a : StepResult) (input words : List ℕ) (waited : ℕ) where
    made_more : (k : ChosenRun) → IsMade g a input words waited k → finished k.run.at.last_event ≡ false
        → IsMade g a input words waited (stepped_chosen_run g k)
    made_more k made going =
        let b = k.run.at in
        let d : Draw = draw g b.state b.pending k.waited k.words in
        let m : StepResult = chosen g b.state b.pending k.waited k.words k.run.left in
        let h = m.last_event in
        let hs = k.run.steps in
        let chose : (chosen g b.state b.pending k.waited k.words (given_to h)).last_event ≡ h =
        ap (λ (n : StepResult). n.last_event) (imprecise_step-given_input g b d.choice k.run.left) in
        let more : units g b (h ∷ []) ≡ unit_of b.pending = omega arith in
        record {
          runs =
              RunsImprecisely-append g hs (h ∷ []) a b m made.runs (RunsImprecisely-one g b d.choice k.run.left going);
          fed = subst (λ l. Fed input l (left_behind h k.run.left)) (sym (seen_steps-append hs (h ∷ [])))
              (Fed-append input k.run.left (left_behind h k.run.left) (seen hs) (seen (h ∷ [])) made.fed
              (Fed-next_event g b d.choice k.run.left));
          used =
              units_of_steps-append g hs (h ∷ []) a b made.runs
              ∙ (ap (λ n. n + units g b (h ∷ [])) made.used ∙ ap (λ n. k.run.units + n) more);
          draws = Draws-last hs a b waited k.waited words k.words h made.runs made.draws made.waits chose;
          count =
              words_drawn-last hs a b waited k.waited words k.words h made.runs made.draws made.waits
              ∙ ap (λ n. n + d.count) made.count;
          waits = waits-last hs waited h ∙ ap (waited_after h) made.waits;
        }

    advance-chosen_run : (k : ChosenRun) → IsMade g a input words waited k
        → IsMade g a input words waited (advance_chosen_run g k)
    advance-chosen_run k made =
        ⊎_elim
        (λ (over : finished k.run.at.last_event ≡ true).
        subst (IsMade g a input words waited) (sym (advance_chosen_run-over g k over)) made)
        (λ (going : finished k.run.at.last_event ≡ false).
        subst (IsMade g a input words waited) (sym (advance_chosen_run-going g k going)) (made_more k made going))
        (cases_Bool (finished k.run.at.last_event))

    pub chosen_run_with-chosen_run : (k : ChosenRun) (n : ℕ) → IsMade g a input words waited k
        → IsMade g a input words waited (chosen_run g k n)
    chosen_run_with-chosen_run k n start =
        chosen_run-keeps g (IsMade g a input words waited) advance-chosen_run k n start

    pub steps-chosen_run : (k : ChosenRun) (n : ℕ) → IsMade g a input words waited k
        → IsMade g a input words waited (steps_of_chosen_run g k n)
    steps-chosen_run k zero start = start
    steps-chosen_run k (suc n) start = advance-chosen_run (steps_of_chosen_run g k n) (steps-chosen_run k n start)

-- from its beginning
pub begun-chosen_run : (g : Program) (s : State) (input words : List ℕ) (pending : Option Trap) (waited : ℕ)
    → IsMade g (step_result s pending (Precisely Went)) input words waited (begun s input pending waited words)
begun-chosen_run g s input words pending waited =
    record { runs = refl; fed = refl; used = refl; draws = refl; count = refl; waits = refl }

pub chosen_run-over : (g : Program) (s : State) (input words : List ℕ) (n : ℕ)
    → let k = chosen_run g (begun s input None 0 words) n in
    RunsOver g s input k.run × Draws g (imprecise_start s) 0 words k.run.steps k.words
chosen_run-over g s input words n =
    let h = chosen_run_with-chosen_run g (imprecise_start s) input words 0 (begun s input None 0 words) n
    (begun-chosen_run g s input words None 0) in
    (record { runs = h.runs; fed = h.fed; used = h.used }, h.draws)

-- the most words that it draws
pub chosen_run-draws : (g : Program) (s : State) (input words : List ℕ) (n : ℕ)
    → (chosen_run g (begun s input None 0 words) n).count ≤ most_words n
chosen_run-draws g s input words n =
    let k = chosen_run g (begun s input None 0 words) n in
    let h = chosen_run_with-chosen_run g (imprecise_start s) input words 0 (begun s input None 0 words) n
    (begun-chosen_run g s input words None 0) in
    let most = draws_most g k.run.steps (imprecise_start s) k.run.at 0 words k.words refl h.runs h.draws in
    let used = (made_is g (begun s input None 0 words) n refl refl).most in
    omega (arith, h.count, h.used)

-- ---- and back

-- steps that words choose and an input feeds are so many steps of the making
pub drawn_told : (g : Program) (hs : List ImpreciseEvent) (k : ChosenRun) (b : StepResult) (left rest : List ℕ)
    → RunsImprecisely g k.run.at hs b → Draws g k.run.at k.waited k.words hs rest → Fed k.run.left (seen hs) left
    → (w : ℕ) × (steps_of_chosen_run g k (length hs)
    ≡ chosen_run_with b (k.run.steps ++ hs) left (k.run.units + units g k.run.at hs) w rest
    (k.count + words_drawn g k.run.at k.waited k.words hs))
drawn_told g [] k b left rest run draws fed = (
  k.waited,
  ap (λ (m : StepResult). chosen_run_with m k.run.steps k.run.left k.run.units k.waited k.words k.count) run
      ∙ (ap (λ l. chosen_run_with b l k.run.left k.run.units k.waited k.words k.count) (sym (append-nil k.run.steps))
      ∙ (ap (λ l. chosen_run_with b (k.run.steps ++ []) l k.run.units k.waited k.words k.count) fed
      ∙ (ap (λ n. chosen_run_with b (k.run.steps ++ []) left n k.waited k.words k.count)
      (let e : k.run.units ≡ k.run.units + 0 = omega arith in e)
      ∙ (ap (λ l. chosen_run_with b (k.run.steps ++ []) left (k.run.units + 0) k.waited l k.count) draws
      ∙ ap (λ n. chosen_run_with b (k.run.steps ++ []) left (k.run.units + 0) k.waited rest n)
      (let e : k.count ≡ k.count + 0 = omega arith in e))))),
)
drawn_told g (h ∷ hs) k b left rest run draws fed =
    let a = k.run.at in
    let d : Draw = draw g a.state a.pending k.waited k.words in
    let gave = Fed-split_event h (seen hs) k.run.left left fed in
    let over = imprecise_step-over_input g a d.choice h k.run.left draws.0 gave.0 in
    let to : chosen g a.state a.pending k.waited k.words k.run.left ≡ next_step_result g a h =
    over ∙ sym (next_step_result-by g a d.choice h draws.0) in
    let next : ChosenRun = chosen_run_with (next_step_result g a h) (k.run.steps ++ h ∷ []) (left_behind h k.run.left)
    (k.run.units + unit_of a.pending) (waited_after h k.waited) (drop d.count k.words) (k.count + d.count) in
    let one : advance_chosen_run g k ≡ next =
    advance_chosen_run-going g k run.0
    ∙ (ap
    (λ (m : StepResult). chosen_run_with m (k.run.steps ++ m.last_event ∷ []) (left_behind m.last_event k.run.left)
    (k.run.units + unit_of a.pending) (waited_after m.last_event k.waited) (drop d.count k.words) (k.count + d.count))
    to
    ∙ ap
    (λ (x : ImpreciseEvent). chosen_run_with (next_step_result g a h) (k.run.steps ++ x ∷ []) (left_behind x k.run.left)
    (k.run.units + unit_of a.pending) (waited_after x k.waited) (drop d.count k.words) (k.count + d.count)) run.1) in
    let more = drawn_told g hs next b left rest run.2 draws.1 gave.1 in
    let used : (k.run.units + unit_of a.pending) + units g (next_step_result g a h) hs
    ≡ k.run.units + units g a (h ∷ hs) =
    omega arith in
    let counted : (k.count + d.count)
    + words_drawn g (next_step_result g a h) (waited_after h k.waited) (drop d.count k.words) hs
    ≡ k.count + words_drawn g a k.waited k.words (h ∷ hs) =
    omega arith in (
      more.0,
      sym (steps-first g k (length hs))
          ∙ (ap (λ (j : ChosenRun). steps_of_chosen_run g j (length hs)) one
          ∙ (more.1
          ∙ (ap
          (λ l.
          chosen_run_with b l left ((k.run.units + unit_of a.pending) + units g (next_step_result g a h) hs) more.0 rest
          ((k.count + d.count)
          + words_drawn g (next_step_result g a h) (waited_after h k.waited) (drop d.count k.words) hs))
          (append_assoc k.run.steps (h ∷ []) hs)
          ∙ (ap (λ n. chosen_run_with b (k.run.steps ++ h ∷ hs) left n more.0 rest
          ((k.count + d.count)
          + words_drawn g (next_step_result g a h) (waited_after h k.waited) (drop d.count k.words) hs))
          used
          ∙ ap (λ n. chosen_run_with b (k.run.steps ++ h ∷ hs) left (k.run.units + units g a (h ∷ hs)) more.0 rest n)
          counted)))),
    )

-- ---- the run that has used its units

advance_units : (g : Program) (j : ChosenRun) → j.run.units ≤ (advance_chosen_run g j).run.units
advance_units g j = by (finished j.run.at.last_event)
  where
    by : (b : Bool) → j.run.units ≤ (cond b j (stepped_chosen_run g j)).run.units
    by true = omega arith
    by false = omega arith

pub steps_of_chosen_run-units_le : (g : Program) (d : ℕ) (k : ChosenRun)
    → k.run.units ≤ (steps_of_chosen_run g k d).run.units
steps_of_chosen_run-units_le g zero k = omega arith
steps_of_chosen_run-units_le g (suc d) k =
    let rest = steps_of_chosen_run-units_le g d k in
    let one = advance_units g (steps_of_chosen_run g k d) in
    omega arith

pub steps_of_chosen_run-over : (g : Program) (d : ℕ) (k : ChosenRun) → finished k.run.at.last_event ≡ true
    → steps_of_chosen_run g k d ≡ k
steps_of_chosen_run-over g zero k e = refl
steps_of_chosen_run-over g (suc d) k e =
    ap (advance_chosen_run g) (steps_of_chosen_run-over g d k e) ∙ advance_chosen_run-over g k e

-- a run that has used so many units goes on to no other one that has
used_once : (g : Program) (k : ChosenRun) (n : ℕ) → HasUsed n k.run.units k.run.at → (d : ℕ)
    → HasUsed n (steps_of_chosen_run g k d).run.units (steps_of_chosen_run g k d).run.at → steps_of_chosen_run g k d ≡ k
used_once g k n one d two = by (finished k.run.at.last_event) refl d two
  where
    by : (b : Bool) → finished k.run.at.last_event ≡ b → (d : ℕ)
        → HasUsed n (steps_of_chosen_run g k d).run.units (steps_of_chosen_run g k d).run.at
        → steps_of_chosen_run g k d ≡ k
    by true e d two = steps_of_chosen_run-over g d k e
    by false e zero two = refl
    by false e (suc d) two =
        let calm : k.run.at.pending ≡ None =
        is_none-true k.run.at.pending (ap (λ b. b || is_none k.run.at.pending) (sym e) ∙ one.settled) in
        let first : (advance_chosen_run g k).run.units ≡ k.run.units + 1 =
        ap (λ (j : ChosenRun). j.run.units) (advance_chosen_run-going g k e)
        ∙ ap (λ (p : Option Trap). k.run.units + unit_of p) calm in
        let full = one.full e in
        let grows = steps_of_chosen_run-units_le g d (advance_chosen_run g k) in
        let more : (steps_of_chosen_run g (advance_chosen_run g k) d).run.units
        ≡ (steps_of_chosen_run g k (suc d)).run.units =
        ap (λ (j : ChosenRun). j.run.units) (steps-first g k d) in
        let most = two.most in
        absurd (omega arith)

-- the run of so many units is the one that has used them
pub chosen_run-IsMade : (g : Program) (k : ChosenRun) (m n : ℕ)
    → HasUsed n (chosen_run g k n).run.units (chosen_run g k n).run.at
    → HasUsed n (steps_of_chosen_run g k m).run.units (steps_of_chosen_run g k m).run.at
    → chosen_run g k n ≡ steps_of_chosen_run g k m
chosen_run-IsMade g k m n whole used =
    let within = IsWithin-pending g k n in
    let s = within.steps in
    let there : HasUsed n (steps_of_chosen_run g k s).run.units (steps_of_chosen_run g k s).run.at =
    subst (λ (j : ChosenRun). HasUsed n j.run.units j.run.at) (sym within.reached) whole in
    sym within.reached
    ∙ ⊎_elim (λ (less : s < m). sym (later s m less there used)) (λ (most : m ≤ s). no_later m s most used there)
    (cases_lt s m)
  where
    no_later : (a b : ℕ) → a ≤ b → HasUsed n (steps_of_chosen_run g k a).run.units (steps_of_chosen_run g k a).run.at
        → HasUsed n (steps_of_chosen_run g k b).run.units (steps_of_chosen_run g k b).run.at
        → steps_of_chosen_run g k b ≡ steps_of_chosen_run g k a
    no_later a b most one two =
        let same : steps_of_chosen_run g (steps_of_chosen_run g k a) (b - a) ≡ steps_of_chosen_run g k b =
        steps-then g k a (b - a) ∙ ap (steps_of_chosen_run g k) (let e : (b - a) + a ≡ b = omega arith in e) in
        sym same
        ∙ used_once g (steps_of_chosen_run g k a) n one (b - a)
        (subst (λ (j : ChosenRun). HasUsed n j.run.units j.run.at) (sym same) two)

    later : (a b : ℕ) → a < b → HasUsed n (steps_of_chosen_run g k a).run.units (steps_of_chosen_run g k a).run.at
        → HasUsed n (steps_of_chosen_run g k b).run.units (steps_of_chosen_run g k b).run.at
        → steps_of_chosen_run g k b ≡ steps_of_chosen_run g k a
    later a b less one two = no_later a b (let e : a ≤ b = omega arith in e) one two

-- steps that words choose and an input feeds, and that have used their units, are the run that is made
pub RunsOver-chosen_run : (g : Program) (s : State) (input words rest : List ℕ) (n : ℕ) (w : ImpreciseRun)
    → RunsOver g s input w
    → Draws g (imprecise_start s) 0 words w.steps rest
    → HasUsed n w.units w.at → (chosen_run g (begun s input None 0 words) n).run ≡ w
RunsOver-chosen_run g s input words rest n w h draws used =
    let from : ChosenRun = begun s input None 0 words in
    let there = drawn_told g w.steps from w.at w.left rest h.runs draws h.fed in
    let count : 0 + units g (imprecise_start s) w.steps ≡ w.units = (let e = h.used in omega arith) in
    let reached : (steps_of_chosen_run g from (length w.steps)).run ≡ w =
    ap (λ (k : ChosenRun). k.run) there.1 ∙ ap (λ u. let r : ImpreciseRun = record w { units = u } in r) count in
    ap (λ (k : ChosenRun). k.run) (chosen_run-IsMade g from (length w.steps) n (made_is g from n refl refl)
    (subst (λ (r : ImpreciseRun). HasUsed n r.units r.at) (sym reached) used)) ∙ reached
