-- What the loop's steps are, as a run with its journal.
use Rattle.std.proofs.Common.{◌≡◌, ◌<◌, ◌≤◌, ◌+◌, ◌-◌, ◌==◌, ◌&&◌, ◌||◌, not, ℕ, suc, Bool, true, false, List, [], ◌∷◌}
use Rattle.std.proofs.Common.{◌++◌, length, Option, Some, None, is_none, refl, sym, ap, subst, ◌∙◌, append_assoc}
use Rattle.std.proofs.Common.{length-append, arith}
use Rattle.std.proofs.lemmas.Bool.{eq-eqb}
use Rattle.alpha_io.specs.SinkChange.{SinkChange}
use Rattle.alpha_pal.specs.declared.fault.Fault.{Fault}
use Rattle.alpha_seq.specs.declared.event.Event.{Event as SeenEvent}
use Rattle.alpha_seq.specs.State.{Went, Barriered, Overflowed, Ends}
use Rattle.alpha_seq.specs.Machine.{program_of}
use Rattle.alpha_seq.specs.Devices.{Drawn}
use Rattle.alpha_seq.specs.StepLabel.{StepLabel, is_over}
use Rattle.alpha_imprecise.specs.declared.pending.Pending.{Pending}
use Rattle.alpha_imprecise.specs.StepResult.{ImpreciseEvent, Precisely, Triggered, Waited, Reported, Lost}
use Rattle.alpha_imprecise.specs.Run.{seen, finished, unit_of, units}
use Rattle.alpha_imprecise.specs.Chosen.{Draws}
use Rattle.alpha_imprecise.specs.Oracle.{Oracle}
use Rattle.alpha_imprecise.specs.ChosenRun.{ChosenRun, shown_chosen_run, advance_chosen_run, steps_of_chosen_run}
use Rattle.alpha_imprecise.specs.Restart.{NeverLoses}
use Rattle.alpha_imprecise.specs.ImpreciseState.{ImpreciseState, trap_in, waited_in, step_result_of, begun_at}
use Rattle.alpha_imprecise.specs.ImpreciseStepEffect.{ImpreciseStep, ImpreciseStateAfterFault, imprecise_units}
use Rattle.alpha_imprecise.proofs.DrawnRuns.{drawn_told}
use Rattle.alpha_run.specs.Row.{Row, AreGoing, units_of, seen_by}
use Rattle.alpha_run.specs.RunEffect.{ends_at, ContinuesRun, EndsRun, RunsTo, IsPrefixRun}
use Rattle.alpha_run.specs.ImpreciseRan.{moment_at, ended_as, ImprecisePrefixRun}
use Rattle.alpha_run.proofs.RunsOfAccepted.{loses_none}
use Rattle.alpha_run.proofs.StepRows.{seen_by-append}
use Rattle.alpha_run.proofs.ImpreciseRuns.{WritesLines, steps_of, last_imprecise_event, finished-last_imprecise_event}
use Rattle.alpha_run.proofs.ImpreciseRuns.{row_ran, finished-is_over}
use Rattle.alpha_run.proofs.ImpreciseRuns.{ends-shown, goes_ran, stopped_ran, IsPrefixRun-ImprecisePrefixRun}
use Rattle.alpha_run.proofs.ImpreciseShown as shown
use Rattle.alpha_run.proofs.ImpreciseShown.{WholeRun}
use Rattle.alpha_replay.specs.declared.journal_end.JournalEnd.{JournalEnd}
use Rattle.alpha_replay.specs.declared.journal_end.JournalEnd.TheVariants as ends
use Rattle.alpha_replay.specs.declared.ending.Ending.{Ending}
use Rattle.alpha_replay.specs.declared.ending.Ending.TheVariants as endings
use Rattle.alpha_replay.specs.declared.recorder.Recorder.{Recorder}
use Rattle.alpha_replay.specs.GatheredItems.{no_moves, closed}
use Rattle.alpha_replay.specs.Journal.{Parts, parts}
use Rattle.alpha_replay.specs.Journaled.{is_within, journal_of, stops_at, has_stopped, steps_journaled, GoesOver}
use Rattle.alpha_run.specs.Shows.{ShowsImprecisePart}
use Rattle.alpha_replay.specs.JournalEnd as made
use Rattle.alpha_replay.specs.JournalEnd.{IsJournaledAt}
use Rattle.alpha_replay.specs.Recorder.{recording, recorded_after, outcome}
use Rattle.alpha_replay.specs.Replay.{ending_of, ending_seen}
use Rattle.alpha_replay.specs.BuilderState.{BuilderState, builder_state, builder_fits, builder_after}
use Rattle.alpha_replay.proofs.ChosenJournals.{steps_journaled-chosen_run}
use Rattle.alpha_replay.proofs.MovesOfSteps.{IsLast-shown_as}
use Rattle.alpha_replay.proofs.RecorderNotes.{after_fits, unstopped_fit, fit_unstopped, lines_same}
use Rattle.alpha_replay.proofs.RecordedSteps.{builder_of, builder_more, built_on, built_over, AllFit}
use Rattle.alpha_replay.proofs.RecordedSteps.{builder_fits-built_over}
use Rattle.alpha_replay.proofs.RecordedSteps.{builder_over}
use Rattle.alpha_replay.proofs.RecordedSteps.{going_row-GoesOver, stops_at-going, goes-last}
use Rattle.alpha_replay.proofs.LongerRuns.{goes_past}

-- the recorder before the first step
abbrev pub first_recorder : Recorder
first_recorder = record { builder = builder_state [] [] no_moves; full = false }

abbrev empty_builder : BuilderState
empty_builder = builder_state [] [] no_moves

pub recording-WritesLines : WritesLines recording false first_recorder
recording-WritesLines = λ ps. lines_same first_recorder ps

-- ---- how a run ended

going_as : (h : ImpreciseEvent) → finished h ≡ false → (None ≡ ended_as h) × (ending_of h ≡ endings.Spent)
going_as (Precisely Went) e = (refl, refl)
going_as (Precisely (Barriered traffic pc regs)) e = (refl, refl)
going_as (Precisely (Overflowed at)) e = (refl, refl)
going_as (Precisely (Ends end)) e = absurd cc
going_as (Triggered value) e = (refl, refl)
going_as (Waited adds value bytes) e = (refl, refl)
going_as (Reported at) e = (refl, refl)
going_as (Lost pc mask) e = absurd cc

calm_left : (left : ℕ) (o : Option Pending) → left < unit_of (trap_in o) → (o ≡ None) × (left ≡ 0)
calm_left left None least = (refl, omega arith)
calm_left left (Some p) least = absurd (omega arith)

or_true : (a b c : Bool) → (a || b) ≡ true → (a || (b || c)) ≡ true
or_true true b c e = refl
or_true false b c e = ap (λ (x : Bool). x || c) e

-- ---- all units are used

spent_by : (n used : ℕ) (fits over : Bool) (pending : Option Pending) → pending ≡ None → used ≡ n
    → (not fits || (over || (is_none (trap_in pending) && (used == n)))) ≡ true
spent_by n used true true pending calm full = refl
spent_by n used true false pending calm full =
    ap (λ (o : Option Pending). is_none (trap_in o) && (used == n)) calm ∙ eq-eqb used n full
spent_by n used false over pending calm full = refl

Records-spent : (n left : ℕ) (old new : ImpreciseState) (to : Recorder)
    (before after : Oracle) (input : Drawn) (out sink : SinkChange)
    → left < imprecise_units new
    → (one : ContinuesRun ImpreciseStep recording n left old new first_recorder to before after input out sink)
    → let t = built_over empty_builder one.labels in
    made.Records n None
    (parts old.machine.completion endings.Spent t.taken t.put (closed t.gathered)) old new before after input out sink
unfolding goes_ran
Records-spent n left old new to before after input out sink least one =
    let ps = one.labels in
    let none = calm_left left new.pending least in
    let t = built_over empty_builder ps in
    let all = unstopped_fit first_recorder ps one.unstopped in
    let full : units_of ps ≡ n = omega (arith, one.used, none.1) in
    let h = last_imprecise_event old new (Precisely Went) ps one.row in
    let hs = steps_of old new ps one.row in
    let on : finished h ≡ false = finished-last_imprecise_event old new (Precisely Went) refl ps one.row one.going in
    let tape : t ≡ builder_of hs = builder_over [] ps old new one.row in
    record {
      last_event = h;
      stops = record {
        units = units_of ps;
        most = omega (arith, full);
        ran =
            goes_ran recording
            (units_of ps) n left false old new first_recorder to before after input out sink recording-WritesLines
            one.used one;
        goes_over =
            going_row-GoesOver n (program_of old.machine) 0 []
            (Precisely Went) old new ps refl refl refl all one.going one.row
            (omega (arith, full));
        stopped = spent_by n (units_of ps) (builder_fits (builder_of hs)) (finished h) new.pending none.0 full;
      };
      last_is = (going_as h on).0;
      settled =
          ap (λ (b : Bool). b || is_none (trap_in new.pending)) on
          ∙ ap (λ (o : Option Pending). is_none (trap_in o)) none.0;
      full = λ e. full;
      within = builder_fits-built_over empty_builder ps refl all;
      is = ap (λ (e : Ending). parts old.machine.completion e t.taken t.put (closed t.gathered)) (sym (going_as h on).1)
          ∙ ap (λ (x : BuilderState). parts old.machine.completion (ending_of h) x.taken x.put (closed x.gathered))
          tape;
    }

-- ---- a last step

module _ (n : ℕ) (old mid new : ImpreciseState) (ps : List StepLabel) (p : StepLabel) (all : AllFit empty_builder ps)
    (going : AreGoing ps) (row : Row ImpreciseStep old ps mid)
    (is : ImpreciseStep mid p new) (room : units_of ps + p.units ≤ n) where
  abbrev hs : List ImpreciseEvent
  hs = steps_of old mid ps row

  abbrev last : ImpreciseEvent
  last = is.step.last_event

  -- the tape before it, and with it
  abbrev before_last : BuilderState
  before_last = built_over empty_builder ps

  abbrev with_last : BuilderState
  with_last = built_on before_last p

  builder_before : before_last ≡ builder_of hs
  builder_before = builder_over [] ps old mid row

  builder_with : with_last ≡ builder_of (hs ++ last ∷ [])
  builder_with = ap (λ (t : BuilderState). built_on t p) builder_before ∙ sym (builder_more hs p mid new is)

  pub prefix_not_stopped : stops_at n old.machine.completion (units (program_of old.machine) (moment_at old) hs) hs
      (step_result_of mid (last_imprecise_event old mid (Precisely Went) ps row))
      ≡ false
  prefix_not_stopped =
      let ran = row_ran (program_of old.machine) false ps (Precisely Went) old mid refl refl row going in
      stops_at-going n (units (program_of old.machine) (moment_at old) hs) old.machine.completion hs
      (last_imprecise_event old mid (Precisely Went) ps row) mid
      (subst (λ (t : BuilderState). builder_fits t ≡ true) builder_before
      (builder_fits-built_over empty_builder ps refl all))
      (finished-last_imprecise_event old mid (Precisely Went) refl ps row going)
      (omega (arith, ran.used, is.step.units, room))

  pub goes_before : GoesOver n (program_of old.machine) 0 [] (moment_at old) hs
  goes_before =
      going_row-GoesOver n (program_of old.machine) 0 [] (Precisely Went) old mid ps refl refl refl all going row
      (omega (arith, room))

  pub goes_all : GoesOver n (program_of old.machine) 0 [] (moment_at old) (hs ++ last ∷ [])
  goes_all =
      let g = program_of old.machine in
      let ran = row_ran g false ps (Precisely Went) old mid refl refl row going in
      let same : units g (moment_at old) hs ≡ 0 + units g (moment_at old) hs = omega arith in
      goes-last n g 0 [] (moment_at old) hs
      (step_result_of mid (last_imprecise_event old mid (Precisely Went) ps row)) last ran.runs goes_before
      (subst (λ k. stops_at n old.machine.completion k hs
      (step_result_of mid (last_imprecise_event old mid (Precisely Went) ps row)) ≡ false) same prefix_not_stopped)

  -- it ends the run
  pub stops_all : (used : ℕ) → (not (builder_fits with_last) || is_over p.event) ≡ true
      → stops_at n old.machine.completion used (hs ++ last ∷ []) (step_result_of new last) ≡ true
  stops_all used ends =
      or_true (not (builder_fits (builder_of (hs ++ last ∷ [])))) (finished last)
      (is_none (trap_in new.pending) && (used == n))
      (ap (λ (t : BuilderState). not (builder_fits t) || finished last) (sym builder_with)
      ∙ (ap (λ (b : Bool). not (builder_fits with_last) || b) (finished-is_over mid p new is) ∙ ends))

  pub journal_all : parts old.machine.completion
      (ending_seen p.event) with_last.taken with_last.put (closed with_last.gathered)
      ≡ journal_of old.machine.completion last (hs ++ last ∷ [])
  journal_all =
      ap (λ (e : Ending). parts old.machine.completion e with_last.taken with_last.put (closed with_last.gathered))
      (IsLast-shown_as p.event is.step.passed last is.step.event).ending
      ∙ ap (λ (t : BuilderState). parts old.machine.completion (ending_of last) t.taken t.put (closed t.gathered))
      builder_with

-- the recorder behind it
seen_last : (ps : List StepLabel) (p : StepLabel) (to : Recorder)
    → AllFit empty_builder ps → to ≡ seen_by recorded_after first_recorder (ps ++ p ∷ [])
    → to ≡ recorded_after (record { builder = built_over empty_builder ps; full = false }) p.event p.core
seen_last ps p to all seen =
    seen
    ∙ (seen_by-append recorded_after first_recorder ps (p ∷ [])
    ∙ ap (λ (r : Recorder). recorded_after r p.event p.core) (fit_unstopped first_recorder ps all).1)

module _ (n left : ℕ) (event : SeenEvent) (old new : ImpreciseState) (to : Recorder) (before after : Oracle)
    (input : Drawn)
    (out sink : SinkChange)
    (one : EndsRun ImpreciseStep recording n left event old new first_recorder to before after input out sink) where
  abbrev all_fit : AllFit empty_builder one.labels
  all_fit = unstopped_fit first_recorder one.labels one.unstopped

  abbrev fits_last : BuilderState
  fits_last = built_on (built_over empty_builder one.labels) one.label

  pub prefix_units-room : units_of one.labels + one.label.units ≤ n
  prefix_units-room = omega (arith, one.used)

  pub is_last : (not (builder_fits fits_last) || is_over one.label.event) ≡ true
  is_last =
      subst (λ (r : Recorder). ends_at recording r one.label.event one.label.core ≡ true)
      (fit_unstopped first_recorder one.labels all_fit).1 one.ends

  unfoldable pub journal-JournalStops : made.JournalStops n one.is.step.last_event old new before after input out sink
  unfolding stopped_ran
  journal-JournalStops = record {
    units = units_of one.labels + one.label.units;
    most = prefix_units-room;
    ran =
        stopped_ran recording n left event false old new first_recorder to before after input out sink
        recording-WritesLines one;
    goes_over = goes_all n old one.mid new one.labels one.label all_fit one.going one.row one.is prefix_units-room;
    stopped =
        stops_all n old one.mid new one.labels one.label all_fit one.going one.row one.is prefix_units-room
        (units_of one.labels + one.label.units) is_last;
  }

  abbrev journal : Parts
  journal =
      parts old.machine.completion (ending_seen one.label.event) fits_last.taken fits_last.put
      (closed fits_last.gathered)

  journal_is : journal ≡ journal_of old.machine.completion one.is.step.last_event journal-JournalStops.ran.steps
  unfolding journal-JournalStops stopped_ran
  journal_is = journal_all n old one.mid new one.labels one.label all_fit one.going one.row one.is prefix_units-room

  pub stopped_full : builder_fits fits_last ≡ false → made.IsFull n old new before after input out sink
  stopped_full past = record {
    last_event = one.is.step.last_event;
    stops = journal-JournalStops;
    past = ap is_within (sym journal_is) ∙ past;
  }

  pub stopped_over : builder_fits fits_last ≡ true
      → made.Records n (Some event) journal old new before after input out sink
  unfolding journal-JournalStops
  stopped_over within =
      let over : is_over one.label.event ≡ true =
      ap (λ (b : Bool). not b || is_over one.label.event) (sym within) ∙ is_last in
      let done : finished one.is.step.last_event ≡ true = finished-is_over one.mid one.label new one.is ∙ over in
      record {
        last_event = one.is.step.last_event;
        stops = journal-JournalStops;
        last_is =
            ap Some (sym one.event_is ∙ one.is.step.event) ∙ ends-shown one.is.step.passed one.is.step.last_event done;
        settled = ap (λ (b : Bool). b || is_none (trap_in new.pending)) done;
        full = λ going. absurd (let no : true ≡ false = sym done ∙ going in cc);
        within = within;
        is = journal_is;
      }

-- ---- a step that a fault cuts short

-- fronts were written of what the run shows wherever it would have stopped
module _ (fault : Fault) (n : ℕ) {rest : ℕ} (old new : ImpreciseState) (before after : Oracle) (input : Drawn)
    (out sink : SinkChange) (cut : ImprecisePrefixRun fault n rest false old new before after input out sink)
    (over : GoesOver n (program_of old.machine) 0 [] (moment_at old) cut.steps)
    (still_on : stops_at n old.machine.completion (units (program_of old.machine) (moment_at old) cut.steps) cut.steps
    (step_result_of cut.mid cut.last) ≡ false) where
  pub short_fronts : (bytes coming : List ℕ) (k : ChosenRun) → input.old.left ≡ Some bytes
      → IsJournaledAt n old bytes ((cut.words ++ cut.label.words) ++ coming) k
      → ShowsImprecisePart (shown_chosen_run false k) out sink
  short_fronts bytes coming k tells is =
      let g = program_of old.machine in
      let a = moment_at old in
      let m = length cut.steps in
      let from = begun_at old bytes ((cut.words ++ cut.label.words) ++ coming) in
      let first = cut.fed.told bytes tells in
      let last = cut.would_feed first.0 first.2 in
      let drew = subst (λ l. Draws g a (waited_in old.pending) l cut.steps (cut.label.words ++ coming))
      (sym (append_assoc cut.words cut.label.words coming)) (cut.draws (cut.label.words ++ coming)) in
      let here = drawn_told g cut.steps from (step_result_of cut.mid cut.last) first.0
      (cut.label.words ++ coming) cut.runs drew first.1 in
      let same = steps_journaled-chosen_run n g cut.steps from (step_result_of cut.mid cut.last) first.0
      (cut.label.words ++ coming) cut.runs drew first.1 over in
      let none : units g a cut.steps ≡ 0 + units g a cut.steps = omega arith in
      let open_still : has_stopped n g.completion (steps_journaled n g from m) ≡ false =
      ap (has_stopped n g.completion) (same ∙ here.1)
      ∙ subst (λ u. stops_at n g.completion u cut.steps (step_result_of cut.mid cut.last) ≡ false) none still_on in
      let begins = goes_past n g from m k open_still is in
      let fed = shown.all_fed fault n false old before after input out sink cut bytes tells in
      let there = drawn_told g (shown.all fault n false old before after input out sink cut) from
      (shown.steps_after_fault fault n false old before after input out sink cut) fed.0 coming
      (shown.prefix-RunsImprecisely fault n false old before after input out sink cut)
      (shown.prefix-Draws fault n false old before after input out sink cut coming) fed.1 in
      let size : suc m ≡ length (shown.all fault n false old before after input out sink cut) =
      omega (arith, length-append cut.steps (cut.step.step.last_event ∷ [])) in
      let steps : (advance_chosen_run g (steps_journaled n g from m)).run.steps
      ≡ shown.all fault n false old before after input out sink cut =
      ap (λ (j : ChosenRun). (advance_chosen_run g j).run.steps) same
      ∙ (ap (λ i. (steps_of_chosen_run g from i).run.steps) size ∙ ap (λ (j : ChosenRun). j.run.steps) there.1) in
      let written = shown.prefix-WritesPrefix fault n false old before after input out sink cut begins.0 k.run.steps
      (begins.1 ∙ ap (λ l. l ++ begins.0) steps) in
      record { bytes = written.0; lines = written.1 }

cut_short : (fault : Fault) (n left : ℕ) (old new : ImpreciseState) (before after : Oracle) (input : Drawn)
    (out sink : SinkChange)
    → IsPrefixRun fault ImpreciseStep ImpreciseStateAfterFault recording n left old new first_recorder before after
    input out
    sink
    → made.IsShort n fault old new before after input out sink
unfolding IsPrefixRun-ImprecisePrefixRun
cut_short fault n left old new before after input out sink one =
    let ps = one.labels in
    let p = one.label in
    let all = unstopped_fit first_recorder ps one.unstopped in
    let most : units_of ps + p.units ≤ n = omega (arith, one.used) in
    let cut =
    IsPrefixRun-ImprecisePrefixRun recording fault n left false old new first_recorder before after input out sink
    recording-WritesLines one in
    record {
      unused = left;
      cut = cut;
      goes_over = goes_all n old one.mid one.intended ps p all one.going one.row one.is most;
      fronts =
          short_fronts fault n old new before after input out sink cut
          (goes_before n old one.mid one.intended ps p all one.going one.row one.is most)
          (prefix_not_stopped n old one.mid one.intended ps p all one.going one.row one.is most);
    }

-- ---- by the answer

pub MakesJournal-ok : (last : Option SeenEvent) (n left : ℕ) (old new : ImpreciseState)
    (from to : Recorder) (before after : Oracle) (input : Drawn) (out sink : SinkChange)
    → from ≡ first_recorder
    → RunsTo last ImpreciseStep imprecise_units recording n left old new from to before after input out sink
    → made.MakesJournal (outcome last old.machine.completion to) n old new before after input out sink
MakesJournal-ok last n left old new from to before after input out sink start did =
    by last (subst (λ (r : Recorder).
    RunsTo last ImpreciseStep imprecise_units recording n left old new r to before after input out sink) start did)
  where
    by : (last : Option SeenEvent)
        → RunsTo last ImpreciseStep imprecise_units recording n left old new first_recorder to before after input out
        sink
        → made.MakesJournal (outcome last old.machine.completion to) n old new before after input out sink
    by None did =
        let one = did.1 in
        let all = unstopped_fit first_recorder one.labels one.unstopped in
        let seen : record { builder = built_over empty_builder one.labels; full = false } ≡ to =
        sym (one.effect.seen ∙ (fit_unstopped first_recorder one.labels all).1) in
        subst (λ (r : Recorder).
        made.MakesJournal (outcome None old.machine.completion r) n old new before after input out sink)
        seen
        (Records-spent n left old new to before after input out sink did.0 one)
    by (Some event) one = fits (builder_fits tape) refl
      where
        tape : BuilderState
        tape = built_on (built_over empty_builder one.labels) one.label

        reached : Recorder
        reached = record { builder = built_over empty_builder one.labels; full = false }

        seen : to ≡ recorded_after reached one.label.event one.label.core
        seen = seen_last one.labels one.label to (unstopped_fit first_recorder one.labels one.unstopped) one.effect.seen

        fits : (b : Bool) → builder_fits tape ≡ b
            → made.MakesJournal (outcome (Some event) old.machine.completion to) n old new before after input out sink
        fits true within =
            let at : record { builder = tape; full = false } ≡ to = sym (seen ∙ after_fits reached one.label within) in
            subst (λ (r : Recorder).
            made.MakesJournal (outcome (Some event) old.machine.completion r) n old new before after input out sink)
            at
            (subst
            (λ (e : SeenEvent). made.Records n (Some event) (parts old.machine.completion (ending_seen e) tape.taken
            tape.put (closed tape.gathered)) old new before after input out sink) one.event_is
            (stopped_over n left event old new to before after input out sink one within))
        fits false past =
            let full : ends.Full ≡ outcome (Some event) old.machine.completion to =
            sym (ap (outcome (Some event) old.machine.completion) seen
            ∙ ap (λ (b : Bool). outcome (Some event) old.machine.completion
            (record { builder = builder_after reached.builder one.label.event one.label.core; full = not b })) past) in
            subst (λ (e : JournalEnd). made.MakesJournal e n old new before after input out sink) full
            (stopped_full n left event old new to before after input out sink one past)

pub made_err : (fault : Fault) (n left : ℕ) (old new : ImpreciseState)
    (from : Recorder) (before after : Oracle) (input : Drawn) (out sink : SinkChange)
    → from ≡ first_recorder
    → IsPrefixRun fault ImpreciseStep ImpreciseStateAfterFault recording n left old new from before after input out sink
    → made.IsShort n fault old new before after input out sink
made_err fault n left old new from before after input out sink start did =
    cut_short fault n left old new before after input out sink (subst (λ (r : Recorder). IsPrefixRun fault ImpreciseStep
    ImpreciseStateAfterFault recording n left old new r before after input out sink) start did)

-- a run with its journal, as one to its end or for all its units
unfoldable pub whole_of : (n : ℕ) (last : Option SeenEvent) (journal : Parts) (old new : ImpreciseState)
    (before after : Oracle) (input : Drawn) (out sink : SinkChange)
    → (r : made.Records n last journal old new before after input out sink)
    → WholeRun last n (n - r.stops.units) false old new before after input out sink
whole_of n last journal old new before after input out sink r =
    let most = r.stops.most in
    record {
      last_event = r.last_event;
      count = r.stops.units;
      ran = r.stops.ran;
      last_is = r.last_is;
      settled = r.settled;
      used = omega arith;
      full = λ going. (let all = r.full going in omega arith);
    }

pub JournalLosesNone-never_loses : (e : JournalEnd) (n : ℕ) (old new : ImpreciseState) (before after : Oracle)
    (input : Drawn)
    (out sink : SinkChange)
    → made.MakesJournal e n old new before after input out sink → old.pending ≡ None → NeverLoses old.machine.image
    → made.JournalLosesNone e
JournalLosesNone-never_loses (ends.Made last journal) n old new before after input out sink did calm never =
    loses_none last n (n - did.stops.units) false old new before after input out sink
    (whole_of n last journal old new before after input out sink did) calm never
JournalLosesNone-never_loses (ends.Failed fault) n old new before after input out sink did calm never = tt
JournalLosesNone-never_loses ends.Full n old new before after input out sink did calm never = tt
JournalLosesNone-never_loses ends.NoMemory n old new before after input out sink did calm never = tt
