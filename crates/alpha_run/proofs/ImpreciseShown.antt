-- What a run of the imprecise machine shows: to its end or for all its units, and where a device's fault cut it short.
use Rattle.std.proofs.Common.{◌≡◌, ◌<◌, ◌≤◌, ◌+◌, ◌-◌, ◌%◌, ◌^◌, ◌||◌, ℕ, zero, suc, Bool, true, false, cond, List, []}
use Rattle.std.proofs.Common.{◌∷◌, ◌++◌, length, drop, Option, Some, None, is_none, refl, sym, ap, subst, ◌∙◌, ⊎_elim}
use Rattle.std.proofs.Common.{append_assoc, append-nil, length-append, arith}
use Rattle.std.proofs.lemmas.Bool.{cases_lt, cases_Bool}
use Rattle.alpha_io.specs.SinkChange.{SinkChange}
use Rattle.alpha_io.specs.Written.{WritesPrefix}
use Rattle.alpha_seq.specs.declared.event.Event.{Event as SeenEvent}
use Rattle.alpha_pal.specs.declared.fault.Fault.{Fault}
use Rattle.alpha_seq.specs.State.{Program, State, Event, Went, Barriered, Overflowed, Ends}
use Rattle.alpha_seq.specs.Run.{Fed, output, notes}
use Rattle.alpha_seq.specs.Machine.{program_of, state_of}
use Rattle.alpha_seq.specs.Devices.{Drawn}
use Rattle.alpha_seq.proofs.RunSteps.{WritesBetween-prefix}
use Rattle.alpha_seq.proofs.RunSequence.{Fed-append}
use Rattle.alpha_imprecise.specs.declared.pending.Pending.{Pending}
use Rattle.alpha_imprecise.specs.StepResult.{Trap, ImpreciseEvent, Precisely, Triggered, Waited, Reported, Lost}
use Rattle.alpha_imprecise.specs.StepResult.{StepResult, step_result}
use Rattle.alpha_imprecise.specs.Run.{seen_of, seen, finished, next_step_result, RunsImprecisely, unit_of, units}
use Rattle.alpha_imprecise.specs.Used.{HasUsed}
use Rattle.alpha_imprecise.specs.Chosen.{draw, waited_after, waits_behind, Draws}
use Rattle.alpha_imprecise.specs.ChosenRun.{ChosenRun, begun, advance_chosen_run, steps_of_chosen_run, chosen_run}
use Rattle.alpha_imprecise.specs.ChosenRun.{most_words}
use Rattle.alpha_imprecise.specs.Oracle.{Oracle, CountsWords}
use Rattle.alpha_imprecise.specs.ImpreciseState.{ImpreciseState, trap_in, waited_in, begun_at, step_result_of}
use Rattle.alpha_imprecise.specs.Fronts.{IsFrontBy}
use Rattle.alpha_imprecise.proofs.PendingTraps.{stepped_chosen_run, advance_chosen_run-going, is_none-true, made_any}
use Rattle.alpha_imprecise.proofs.StepBounds.{steps-first, steps-then, IsWithin-pending}
use Rattle.alpha_imprecise.proofs.ImpreciseSequence.{seen_steps-append, RunsImprecisely-append, units_of_steps-append}
use Rattle.alpha_imprecise.proofs.WordDraws.{words_drawn, words_most, words_all}
use Rattle.alpha_imprecise.proofs.DrawnRuns.{chosen_run_with, Draws-last, waits-last, chosen_run_with-chosen_run}
use Rattle.alpha_imprecise.proofs.DrawnRuns.{begun-chosen_run}
use Rattle.alpha_imprecise.proofs.DrawnRuns.{drawn_told, steps_of_chosen_run-units_le, steps_of_chosen_run-over}
use Rattle.alpha_imprecise.proofs.DrawnRuns.{chosen_run-IsMade}
use Rattle.alpha_run.specs.ImpreciseRan.{moment_at, ImpreciseRan, ended_as, ImpreciseRanAs, ImprecisePrefixRun}
use Rattle.alpha_run.proofs.StepRows.{output-append}
use Rattle.alpha_run.proofs.SeqShown.{notes-append}
use Rattle.alpha_run.proofs.ImpreciseRuns.{step_is, step_chosen, step_drops}

-- ---- words

-- how many words were drawn, from none on
pub CountsWords-from_zero : (before now : Option ℕ) (count n : ℕ) → before ≡ Some 0 → now ≡ Some count
    → CountsWords before now n → count % 2 ^ 64 ≡ n % 2 ^ 64
CountsWords-from_zero None now count n from to more = cc
CountsWords-from_zero (Some b) None count n from to more = cc
CountsWords-from_zero (Some b) (Some c) count n from to more =
    let none : b ≡ 0 = cc in
    let all : c ≡ count = cc in
    omega (arith, more)

-- ---- a run to its end, or for all its units

going_as : (h : ImpreciseEvent) → finished h ≡ false → None ≡ ended_as h
going_as (Precisely Went) e = refl
going_as (Precisely (Barriered traffic pc regs)) e = refl
going_as (Precisely (Overflowed at)) e = refl
going_as (Precisely (Ends end)) e = cc
going_as (Triggered value) e = refl
going_as (Waited adds value bytes) e = refl
going_as (Reported at) e = refl
going_as (Lost pc mask) e = cc

-- such a run, by its last step
pub record WholeRun (last : Option SeenEvent) (n left : ℕ) (watch : Bool) (old new : ImpreciseState)
    (before after : Oracle)
    (input : Drawn) (out sink : SinkChange) : Type 0 where
  pub last_event : ImpreciseEvent
  pub count : ℕ
  pub ran : ImpreciseRan last_event count watch old new before after input out sink
  pub last_is : last ≡ ended_as last_event
  pub settled : (finished last_event || is_none (trap_in new.pending)) ≡ true
  pub used : count + left ≡ n
  pub full : finished last_event ≡ false → left ≡ 0

pub whole_run-ImpreciseRanAs : (last : Option SeenEvent) (n left : ℕ) (watch : Bool) (old new : ImpreciseState)
    (before after : Oracle)
    (input : Drawn) (out sink : SinkChange)
    → ImpreciseRanAs last n left watch old new before after input out sink
    → WholeRun last n left watch old new before after input out sink
whole_run-ImpreciseRanAs None n left watch old new before after input out sink r = record {
  last_event = r.0;
  count = n;
  ran = r.4;
  last_is = going_as r.0 r.1;
  settled =
      ap (λ (b : Bool). b || is_none (trap_in new.pending)) r.1 ∙ ap (λ (o : Option Pending). is_none (trap_in o)) r.2;
  used = (let none = r.3 in omega arith);
  full = λ e. r.3;
}
whole_run-ImpreciseRanAs (Some event) n left watch old new before after input out sink r = record {
  last_event = r.0;
  count = r.1;
  ran = r.5;
  last_is = r.3;
  settled = ap (λ (b : Bool). b || is_none (trap_in new.pending)) r.4;
  used = r.2;
  full = λ e. absurd (let no : true ≡ false = sym r.4 ∙ e in cc);
}

module _ (last : Option SeenEvent) (n left : ℕ) (watch : Bool) (old new : ImpreciseState) (before after : Oracle)
    (input : Drawn) (out sink : SinkChange)
    (w : WholeRun last n left watch old new before after input out sink) where
  -- it has used its units
  pub used_all : HasUsed n w.count (step_result_of new w.last_event)
  used_all = record {
    settled = w.settled;
    most = omega (arith, w.used);
    full = λ e. omega (arith, w.used, w.full e);
  }

  pub few_drawn : old.pending ≡ None → length w.ran.words ≤ most_words n
  few_drawn calm =
      let g = program_of old.machine in
      let low = words_most g w.ran.steps (moment_at old) (step_result_of new w.last_event)
      (waited_in old.pending) w.ran.words (ap trap_in calm) w.ran.runs w.ran.draws in
      omega (arith, low, w.ran.used, w.used)

  -- where an input feeds it, it is the run that the words make over it
  pub told_from : (bytes coming rest : List ℕ) → Fed bytes (seen w.ran.steps) rest
      → (waited : ℕ) × (chosen_run (program_of old.machine) (begun_at old bytes (w.ran.words ++ coming)) n
      ≡ chosen_run_with (step_result_of new w.last_event) w.ran.steps rest w.count waited coming (length w.ran.words))
  told_from bytes coming rest fed =
      let g = program_of old.machine in
      let a = moment_at old in
      let b = step_result_of new w.last_event in
      let hs = w.ran.steps in
      let wait = waited_in old.pending in
      let k = begun_at old bytes (w.ran.words ++ coming) in
      let there = drawn_told g hs k b rest coming w.ran.runs (w.ran.draws coming) fed in
      let all = words_all g hs a wait w.ran.words coming w.ran.draws in
      let used : 0 + units g a hs ≡ w.count = omega (arith, w.ran.used) in
      let drew : 0 + words_drawn g a wait (w.ran.words ++ coming) hs ≡ length w.ran.words = omega (arith, all) in
      let is : steps_of_chosen_run g k (length hs)
      ≡ chosen_run_with b hs rest w.count there.0 coming (length w.ran.words) =
      there.1
      ∙ (ap (λ u. chosen_run_with b hs rest u there.0 coming (0 + words_drawn g a wait (w.ran.words ++ coming) hs)) used
      ∙ ap (chosen_run_with b hs rest w.count there.0 coming) drew) in (
        there.0,
        chosen_run-IsMade g k (length hs) n (made_any g k n refl)
            (subst (λ (j : ChosenRun). HasUsed n j.run.units j.run.at) (sym is) used_all)
            ∙ is,
      )

-- ---- a run that goes on

-- whatever the step before was, a run goes on from its state
module _ (g : Program) (s : State) (p : Option Trap) (x y : ImpreciseEvent) where
  other_runs : (hs : List ImpreciseEvent) (b : StepResult) → finished x ≡ finished y
      → RunsImprecisely g (step_result s p x) hs b
      → (c : StepResult) × RunsImprecisely g (step_result s p y) hs c × (c.pending ≡ b.pending)
      × (finished c.last_event ≡ finished b.last_event)
  other_runs [] b same run = (
    step_result s p y,
    refl,
    ap (λ (m : StepResult). m.pending) run,
    sym same ∙ ap (λ (m : StepResult). finished m.last_event) run,
  )
  other_runs (h ∷ hs) b same run = (b, (sym same ∙ run.0, run.1, run.2), refl, refl)

  other_draws : (hs : List ImpreciseEvent) (waited : ℕ) (words rest : List ℕ)
      → Draws g (step_result s p x) waited words hs rest → Draws g (step_result s p y) waited words hs rest
  other_draws [] waited words rest draws = draws
  other_draws (h ∷ hs) waited words rest draws = draws

  other_units : (hs : List ImpreciseEvent) → units g (step_result s p y) hs ≡ units g (step_result s p x) hs
  other_units [] = refl
  other_units (h ∷ hs) = refl

-- more steps, that use so many units, or are over before
pub record FurtherDraws (g : Program) (m : ℕ) (a : StepResult) (waited : ℕ) (words : List ℕ) : Type 0 where
  pub steps : List ImpreciseEvent
  pub at : StepResult
  pub rest : List ℕ
  pub runs : RunsImprecisely g a steps at
  pub draws : Draws g a waited words steps rest
  pub used : HasUsed m (units g a steps) at

pub FurtherDraws-step : (g : Program) (m : ℕ) (s : State) (p : Option Trap) (h : ImpreciseEvent) (waited : ℕ)
    (words : List ℕ)
    → FurtherDraws g m (step_result s p h) waited words
FurtherDraws-step g m s p h waited words =
    ⊎_elim
    (λ (over : finished h ≡ true). record {
      steps = [];
      at = step_result s p h;
      rest = words;
      runs = refl;
      draws = refl;
      used = record {
        settled = ap (λ b. b || is_none p) over;
        most = omega arith;
        full = λ e. absurd (let no : true ≡ false = sym over ∙ e in cc);
      };
    })
    (λ (going : finished h ≡ false).
    let k = begun s [] p waited words in
    let j = chosen_run g k m in
    let is = chosen_run_with-chosen_run g (step_result s p (Precisely Went)) [] words waited k m
    (begun-chosen_run g s [] words p waited) in
    let u = made_any g k m refl in
    let o = other_runs g s p (Precisely Went) h j.run.steps j.run.at (sym going) is.runs in
    let count = other_units g s p (Precisely Went) h j.run.steps in
    record {
      steps = j.run.steps;
      at = o.0;
      rest = j.words;
      runs = o.1;
      draws = other_draws g s p (Precisely Went) h j.run.steps waited words j.words is.draws;
      used = record {
        settled =
            ap (λ b. b || is_none o.0.pending) o.3
            ∙ (ap (λ q. finished j.run.at.last_event || is_none q) o.2 ∙ u.settled);
        most = omega (arith, count, is.used, u.most);
        full = λ e. omega (arith, count, is.used, u.full (sym o.3 ∙ e));
      };
    })
    (cases_Bool (finished h))

pub Draws-append : (g : Program) (xs ys : List ImpreciseEvent) (a b : StepResult) (waited : ℕ) (words mid rest : List ℕ)
    → RunsImprecisely g a xs b → Draws g a waited words xs mid
    → Draws g b (waits_behind xs waited) mid ys rest → Draws g a waited words (xs ++ ys) rest
Draws-append g [] ys a b waited words mid rest run one two =
    subst (λ (m : StepResult). Draws g m waited words ys rest) (sym run)
    (subst (λ l. Draws g b waited l ys rest) (sym one) two)
Draws-append g (x ∷ xs) ys a b waited words mid rest run one two = (
  one.0,
  Draws-append g xs ys (next_step_result g a x) b (waited_after x waited)
      (drop (draw g a.state a.pending waited words).count words) mid rest run.2 one.1 two,
)

-- ---- fronts of the run that is made

abbrev pub Begins : ChosenRun → ChosenRun → Type 0
Begins j k = (more : List ImpreciseEvent) × (k.run.steps ≡ j.run.steps ++ more)

pub Begins-trans : (i j k : ChosenRun) → Begins i j → Begins j k → Begins i k
Begins-trans i j k one two =
    (one.0 ++ two.0, two.1 ∙ (ap (λ l. l ++ two.0) one.1 ∙ append_assoc i.run.steps one.0 two.0))

pub Begins-advance_chosen_run : (g : Program) (k : ChosenRun) → Begins k (advance_chosen_run g k)
Begins-advance_chosen_run g k = by (finished k.run.at.last_event)
  where
    by : (b : Bool) → Begins k (cond b k (stepped_chosen_run g k))
    by true = ([], sym (append-nil k.run.steps))
    by false = ((stepped_chosen_run g k).run.at.last_event ∷ [], refl)

steps_begin : (g : Program) (k : ChosenRun) (d : ℕ) → Begins k (steps_of_chosen_run g k d)
steps_begin g k zero = ([], sym (append-nil k.run.steps))
steps_begin g k (suc d) =
    Begins-trans k (steps_of_chosen_run g k d) (steps_of_chosen_run g k (suc d)) (steps_begin g k d)
    (Begins-advance_chosen_run g (steps_of_chosen_run g k d))

-- a run that has used so many units makes no step within them
none_within : (g : Program) (k : ChosenRun) (n : ℕ) → HasUsed n k.run.units k.run.at → (d : ℕ)
    → finished (steps_of_chosen_run g k d).run.at.last_event ≡ false
    → (steps_of_chosen_run g k d).run.units + unit_of (steps_of_chosen_run g k d).run.at.pending ≤ n
    → k.run.units ≡ k.run.units + 1
none_within g k n used d going room = by (finished k.run.at.last_event) refl d going room
  where
    calm : finished k.run.at.last_event ≡ false → k.run.at.pending ≡ None
    calm e = is_none-true k.run.at.pending (ap (λ (b : Bool). b || is_none k.run.at.pending) (sym e) ∙ used.settled)

    by : (b : Bool) → finished k.run.at.last_event ≡ b → (d : ℕ)
        → finished (steps_of_chosen_run g k d).run.at.last_event ≡ false
        → (steps_of_chosen_run g k d).run.units + unit_of (steps_of_chosen_run g k d).run.at.pending ≤ n
        → k.run.units ≡ k.run.units + 1
    by true e d going room =
        let no : true ≡ false =
        sym e
        ∙ (ap (λ (j : ChosenRun). finished j.run.at.last_event) (sym (steps_of_chosen_run-over g d k e)) ∙ going) in
        cc
    by false e zero going room =
        let one : unit_of k.run.at.pending ≡ 1 = ap unit_of (calm e) in
        let full = used.full e in
        omega arith
    by false e (suc d) going room =
        let first : (advance_chosen_run g k).run.units ≡ k.run.units + 1 =
        ap (λ (j : ChosenRun). j.run.units) (advance_chosen_run-going g k e)
        ∙ ap (λ (p : Option Trap). k.run.units + unit_of p) (calm e) in
        let full = used.full e in
        let grows = steps_of_chosen_run-units_le g d (advance_chosen_run g k) in
        let more : (steps_of_chosen_run g (advance_chosen_run g k) d).run.units
        ≡ (steps_of_chosen_run g k (suc d)).run.units =
        ap (λ (j : ChosenRun). j.run.units) (steps-first g k d) in
        omega arith

-- a run whose next step is within so many units begins the one that uses them
step_begins : (g : Program) (k : ChosenRun) (m n : ℕ) → HasUsed n (chosen_run g k n).run.units (chosen_run g k n).run.at
    → finished (steps_of_chosen_run g k m).run.at.last_event ≡ false
    → (steps_of_chosen_run g k m).run.units + unit_of (steps_of_chosen_run g k m).run.at.pending ≤ n
    → Begins (steps_of_chosen_run g k (suc m)) (chosen_run g k n)
step_begins g k m n whole going room =
    let within = IsWithin-pending g k n in
    let s = within.steps in
    let used : HasUsed n (steps_of_chosen_run g k s).run.units (steps_of_chosen_run g k s).run.at =
    subst (λ (j : ChosenRun). HasUsed n j.run.units j.run.at) (sym within.reached) whole in
    ⊎_elim
    (λ (late : s < suc m).
    let same : steps_of_chosen_run g (steps_of_chosen_run g k s) (m - s) ≡ steps_of_chosen_run g k m =
    steps-then g k s (m - s) ∙ ap (steps_of_chosen_run g k) (let e : (m - s) + s ≡ m = omega arith in e) in
    let no = none_within g (steps_of_chosen_run g k s) n used (m - s)
    (ap (λ (j : ChosenRun). finished j.run.at.last_event) same ∙ going)
    (subst (λ (j : ChosenRun). j.run.units + unit_of j.run.at.pending ≤ n) (sym same) room) in
    absurd (omega (arith, no)))
    (λ (soon : suc m ≤ s).
    let same : steps_of_chosen_run g (steps_of_chosen_run g k (suc m)) (s - suc m) ≡ steps_of_chosen_run g k s =
    steps-then g k (suc m) (s - suc m)
    ∙ ap (steps_of_chosen_run g k) (let e : (s - suc m) + suc m ≡ s = omega arith in e) in
    subst (Begins (steps_of_chosen_run g k (suc m))) (same ∙ within.reached)
    (steps_begin g (steps_of_chosen_run g k (suc m)) (s - suc m)))
    (cases_lt s (suc m))

-- ---- a run that was cut short

module _ (fault : Fault) (n : ℕ) {rest : ℕ} (watch : Bool) (old : ImpreciseState) {new : ImpreciseState}
    (before after : Oracle) (input : Drawn) (out sink : SinkChange)
    (cut : ImprecisePrefixRun fault n rest watch old new before after input out sink) where
  -- the steps that were made and the one that was cut short, and their words
  abbrev pub all : List ImpreciseEvent
  all = cut.steps ++ cut.step.step.last_event ∷ []

  abbrev pub all_words : List ℕ
  all_words = cut.words ++ cut.label.words

  abbrev pub steps_after_fault : StepResult
  steps_after_fault = step_result_of cut.intended cut.step.step.last_event

  pub prefix-RunsImprecisely : RunsImprecisely (program_of old.machine) (moment_at old) all steps_after_fault
  prefix-RunsImprecisely =
      let g = program_of old.machine in
      let h = cut.step.step.last_event in
      let is = step_is g cut.label cut.mid cut.intended cut.program cut.step cut.last in
      RunsImprecisely-append g cut.steps (h ∷ []) (moment_at old)
      (step_result_of cut.mid cut.last) steps_after_fault cut.runs
      (cut.going, ap (λ (m : StepResult). m.last_event) is, is)

  pub prefix-Draws : (coming : List ℕ)
      → Draws (program_of old.machine) (moment_at old) (waited_in old.pending) (all_words ++ coming) all coming
  prefix-Draws coming =
      let g = program_of old.machine in
      let h = cut.step.step.last_event in
      let rest = cut.label.words ++ coming in
      let one = Draws-last g cut.steps (moment_at old) (step_result_of cut.mid cut.last) (waited_in old.pending)
      (waited_in cut.mid.pending) (cut.words ++ rest) rest h cut.runs (cut.draws rest)
      (sym cut.waited) (step_chosen g cut.label cut.mid cut.intended cut.program cut.step coming) in
      subst (λ l. Draws g (moment_at old) (waited_in old.pending) l all coming)
      (sym (append_assoc cut.words cut.label.words coming))
      (subst (λ l. Draws g (moment_at old) (waited_in old.pending) (cut.words ++ rest) all l)
      (step_drops g cut.label cut.mid cut.intended cut.program cut.step coming) one)

  count : units (program_of old.machine) (moment_at old) all
      ≡ units (program_of old.machine) (moment_at old) cut.steps + unit_of (trap_in cut.mid.pending)
  count =
      let g = program_of old.machine in
      let e = units_of_steps-append g cut.steps (cut.step.step.last_event ∷ [])
      (moment_at old) (step_result_of cut.mid cut.last) cut.runs in
      omega (arith, e)

  waits : waited_in cut.intended.pending ≡ waits_behind all (waited_in old.pending)
  waits =
      let h = cut.step.step.last_event in
      cut.step.step.waited
      ∙ (ap (waited_after h) cut.waited ∙ sym (waits-last (program_of old.machine) cut.steps (waited_in old.pending) h))

  pub seen_all : seen all ≡ seen cut.steps ++ cut.label.seen
  seen_all =
      seen_steps-append cut.steps (cut.step.step.last_event ∷ [])
      ∙ ap (λ (l : List Event). seen cut.steps ++ l)
      (append-nil (seen_of cut.step.step.last_event) ∙ sym cut.step.step.seen)

  -- what feeds them all
  pub all_fed : (bytes : List ℕ) → input.old.left ≡ Some bytes → (rest : List ℕ) × Fed bytes (seen all) rest
  all_fed bytes tells =
      let first = cut.fed.told bytes tells in
      let last = cut.would_feed first.0 first.2 in (
        last.0,
        subst (λ (l : List Event). Fed bytes l last.0) (sym seen_all)
            (Fed-append bytes first.0 last.0 (seen cut.steps) cut.label.seen first.1 last.1),
      )

  -- what more steps show begins with what was written
  pub prefix-WritesPrefix : (more hs : List ImpreciseEvent) → hs ≡ all ++ more
      → WritesPrefix out.old out.new (output (seen hs)) × WritesPrefix sink.old sink.new (notes watch (seen hs))
  prefix-WritesPrefix more hs is =
      let e : seen hs ≡ (seen cut.steps ++ cut.label.seen) ++ seen more =
      ap seen is ∙ (seen_steps-append all more ∙ ap (λ (l : List Event). l ++ seen more) seen_all) in (
        WritesBetween-prefix out.old out.new (output (seen cut.steps)) (output (seen cut.steps ++ cut.label.seen))
            (output (seen more))
            (output (seen hs)) cut.bytes
            (ap output e ∙ output-append (seen cut.steps ++ cut.label.seen) (seen more)),
        WritesBetween-prefix sink.old sink.new (notes watch (seen cut.steps))
            (notes watch (seen cut.steps ++ cut.label.seen))
            (notes watch (seen more)) (notes watch (seen hs)) cut.lines
            (ap (notes watch) e ∙ notes-append watch (seen cut.steps ++ cut.label.seen) (seen more)),
      )

  -- fronts of what some run of all its units shows were written
  pub cut_any : (coming : List ℕ) → IsFrontBy n watch old (all_words ++ coming) out sink
  cut_any coming =
      let g = program_of old.machine in
      let a = moment_at old in
      let rest = FurtherDraws-step g (n - units g a all) (state_of cut.intended.machine)
      (trap_in cut.intended.pending) cut.step.step.last_event (waited_in cut.intended.pending) coming in
      let both = units_of_steps-append g all rest.steps a steps_after_fault prefix-RunsImprecisely in
      let written = prefix-WritesPrefix rest.steps (all ++ rest.steps) refl in
      record {
        steps = all ++ rest.steps;
        at = rest.at;
        rest = rest.rest;
        runs = RunsImprecisely-append g all rest.steps a steps_after_fault rest.at prefix-RunsImprecisely rest.runs;
        draws =
            Draws-append g all rest.steps a steps_after_fault (waited_in old.pending)
            (all_words ++ coming) coming rest.rest prefix-RunsImprecisely
            (prefix-Draws coming)
            (subst (λ k. Draws g steps_after_fault k coming rest.steps rest.rest) waits rest.draws);
        used = record {
          settled = rest.used.settled;
          most = omega (arith, both, count, cut.room, rest.used.most);
          full = λ e. omega (arith, both, count, cut.room, rest.used.full e);
        };
        bytes = written.0;
        lines = written.1;
      }

  pub few_cut : old.pending ≡ None → length all_words ≤ most_words n
  few_cut calm =
      let low =
      words_most (program_of old.machine) all (moment_at old) steps_after_fault (waited_in old.pending) all_words
      (ap trap_in calm) prefix-RunsImprecisely prefix-Draws in
      omega (arith, low, count, cut.room)

  -- where the input is told, of what the run that the words make shows
  pub cut_from : (bytes coming : List ℕ) → input.old.left ≡ Some bytes
      → let to = chosen_run (program_of old.machine) (begun_at old bytes (all_words ++ coming)) n in
      WritesPrefix out.old out.new (output (seen to.run.steps))
      × WritesPrefix sink.old sink.new (notes watch (seen to.run.steps))
  cut_from bytes coming tells =
      let g = program_of old.machine in
      let a = moment_at old in
      let k = begun_at old bytes (all_words ++ coming) in
      let m = length cut.steps in
      let first = cut.fed.told bytes tells in
      let fed = all_fed bytes tells in
      let there =
      drawn_told g all k steps_after_fault fed.0 coming prefix-RunsImprecisely (prefix-Draws coming) fed.1 in
      let drew = subst (λ l. Draws g a (waited_in old.pending) l cut.steps (cut.label.words ++ coming))
      (sym (append_assoc cut.words cut.label.words coming)) (cut.draws (cut.label.words ++ coming)) in
      let here = drawn_told g cut.steps k (step_result_of cut.mid cut.last) first.0
      (cut.label.words ++ coming) cut.runs drew first.1 in
      let low : 0 + units g a cut.steps + unit_of (trap_in cut.mid.pending) ≤ n = omega (arith, cut.room) in
      let begins =
      step_begins g k m n (made_any g k n refl)
      (ap (λ (j : ChosenRun). finished j.run.at.last_event) here.1 ∙ cut.going)
      (subst (λ (j : ChosenRun). j.run.units + unit_of j.run.at.pending ≤ n) (sym here.1) low) in
      let size : suc m ≡ length all = omega (arith, length-append cut.steps (cut.step.step.last_event ∷ [])) in
      let same : (steps_of_chosen_run g k (suc m)).run.steps ≡ all =
      ap (λ i. (steps_of_chosen_run g k i).run.steps) size ∙ ap (λ (j : ChosenRun). j.run.steps) there.1 in
      prefix-WritesPrefix begins.0 (chosen_run g k n).run.steps (begins.1 ∙ ap (λ l. l ++ begins.0) same)
