-- From what a run with its journal did to what is done of a plan by it.
use Rattle.std.proofs.Common.{◌≡◌, ◌⊎◌, ◌++◌, ◌∷◌, ◌∙◌, ◌<◌, ◌≤◌, ◌+◌, ◌-◌, ◌%◌, ◌^◌, length, ℕ, Bool, true, false}
use Rattle.std.proofs.Common.{List, [], Option, None, Some, IfSome, option_map, Ok, refl, sym, ap, subst, inl, inr}
use Rattle.std.proofs.Common.{arith}
use Rattle.alpha_io.specs.Supply.{Supply}
use Rattle.alpha_io.specs.declared.shelf.Shelf as shelves
use Rattle.alpha_io.specs.declared.source.Source as sources
use Rattle.alpha_io.specs.declared.sink.Sink as sinks
use Rattle.alpha_io.specs.ShelfChange.{shelf_change}
use Rattle.alpha_io.specs.SinkChange.{SinkChange, sink_change, Puts}
use Rattle.alpha_io.proofs.ShelfLaws.{KeepsFiles-refl}
use Rattle.alpha_io.specs.Written.{WritesPrefix}
use Rattle.alpha_request.specs.declared.options.RunOptions.{RunOptions}
use Rattle.alpha_seq.specs.declared.event.Event.{Event as SeenEvent}
use Rattle.alpha_seq.specs.State.{Program}
use Rattle.alpha_seq.specs.Run.{output, notes as notes_of}
use Rattle.alpha_seq.specs.Machine.{program_of}
use Rattle.alpha_seq.specs.Devices.{Drawn, LeavesEnd, drawn, Rests, Idles}
use Rattle.alpha_pal.specs.declared.fault.Fault.{Fault}
use Rattle.alpha_imprecise.specs.StepResult.{ImpreciseEvent}
use Rattle.alpha_imprecise.specs.Run.{seen, RunsImprecisely, units}
use Rattle.alpha_imprecise.specs.Chosen.{waits_behind, Draws}
use Rattle.alpha_imprecise.specs.ChosenRun.{ChosenRun, ShownImprecise, shown_chosen_run, first_words, most_words}
use Rattle.alpha_imprecise.specs.ChosenRun.{end_of_imprecise_event, lost_trap}
use Rattle.alpha_imprecise.specs.Restart.{IsRestartable}
use Rattle.alpha_imprecise.specs.Oracle.{Oracle}
use Rattle.alpha_imprecise.specs.ImpreciseState.{ImpreciseState, IsFresh, step_result_of, waited_in}
use Rattle.alpha_imprecise.proofs.ExactDraws.{OracleDraws-first_words}
use Rattle.alpha_imprecise.proofs.FreshRuns.{OracleDraws-Starts}
use Rattle.alpha_imprecise.proofs.ImpreciseSequence.{RunsImprecisely-append, units_of_steps-append}
use Rattle.alpha_run.specs.ImpreciseRan.{moment_at}
use Rattle.alpha_run.proofs.ImpreciseShown.{CountsWords-from_zero, few_cut, prefix-RunsImprecisely, prefix-Draws}
use Rattle.alpha_run.proofs.ImpreciseShown.{prefix-WritesPrefix, Draws-append}
use Rattle.alpha_words.specs.declared.Completion.{Completion}
use Rattle.alpha_replay.specs.Journal.{Parts}
use Rattle.alpha_replay.specs.Journaled.{journal_of, is_within, stops_at, GoesOver}
use Rattle.alpha_run.specs.Shows.{ShowsImprecisePart}
use Rattle.alpha_replay.specs.JournalEnd.{JournalStops, Records, IsFull, IsShort, StopsAt, IsRecorded, IsPast, Shows}
use Rattle.alpha_replay.proofs.JournaledSteps.{EndsJournal-some, GoesOver-append}
use Rattle.alpha_replay.proofs.JournalLoop.{whole_of}
use Rattle.alpha_cmd.specs.declared.decision.Decision.{Decision}
use Rattle.alpha_cmd.specs.declared.devices.Devices.{Devices}
use Rattle.alpha_cmd.specs.declared.status.Status.TheVariants.{NoMemory, JournalFull}
use Rattle.alpha_cmd.specs.Answer.{Answer}
use Rattle.alpha_cmd.specs.AnswerBy.{World, status_answer, world}
use Rattle.alpha_cmd.specs.Decision.{answer_in, SaysAlone}
use Rattle.alpha_cmd.specs.CommandEffect.{CommandEffect}
use Rattle.alpha_cmd.specs.Outcome.{continues}
use Rattle.alpha_cmd.specs.Status.{status_line}
use Rattle.alpha_cmd.specs.RunAnswer.{program_by}
use Rattle.alpha_cmd.specs.Commands.Imprecise.{plan_by, begins_plan, MayRun, imprecise_status, answer_status}
use Rattle.alpha_cmd.specs.Commands.Imprecise.{answer_line}
use Rattle.alpha_cmd.specs.RecordRan.{DecidesRecord}
use Rattle.alpha_cmd.specs.Commands.Record.{unwatched, RecordedByReads, HasItsJournal, IsStopped, full_answer, on}
use Rattle.alpha_cmd.specs.Commands.Record.{RunsOn}
use Rattle.alpha_cmd.proofs.CutShort.{AttemptPrefixes}
use Rattle.alpha_cmd.proofs.JournalUnbegun.{unbegun_tried}
use Rattle.alpha_cmd.proofs.Commands.Record.{HasAnswer, recorded_by, kept_answer, stopped_answer, untold_answer}
use Rattle.alpha_cmd.proofs.Commands.Record.{some_end}
use Rattle.alpha_cmd.proofs.JournalStatus.{IsOver-MayTakeBy}
use Rattle.alpha_cmd.proofs.InputLeft.{untouched_input}
use Rattle.alpha_cmd.proofs.StreamedWrites.{streamed_devices, does_stream, does_whole}
use Rattle.alpha_cmd.proofs.AttemptsByForm.{starts_not}
use Rattle.alpha_cmd.proofs.HasShown.{HasShown}
use Rattle.alpha_cmd.proofs.ImpreciseEnds.{answer_status-ended_as, answer_line-ended_as}
use Rattle.alpha_cmd.proofs.ImpreciseRan.{ran_shows_of, BeginsImprecisely, same_program, begun_plan-subst}

module _ (options : RunOptions) (m : ImpreciseState) (ahead : ℕ → ℕ)
    (same_completion : m.machine.completion ≡ options.complete)
    (fresh : IsFresh m) where
  -- ---- a run that was made

  -- what a run did that has stopped
  stopped_reads : (last : ImpreciseEvent) (new : ImpreciseState)
      (before after : Oracle) (d : Drawn) (out notes : SinkChange)
      → before.ahead ≡ Some ahead
      → JournalStops options.steps last m new before after d out notes
      → RecordedByReads options (plan_by m.machine.image ahead)
  stopped_reads last new before after d out notes tells r =
      let n = options.steps in
      let steps = r.ran.steps in
      let at = step_result_of new last in
      let words = OracleDraws-first_words before after ahead r.ran.words tells r.ran.drew in
      let used : units (program_of m.machine) (moment_at m) steps ≡ r.units = r.ran.used in
      record {
        steps = steps;
        at = at;
        drawn = length r.ran.words;
        runs =
            begun_plan-subst (unwatched options) m ahead same_completion fresh
            (λ g a k. RunsImprecisely g a steps at) r.ran.runs;
        draws =
            λ coming. subst (λ (l : List ℕ). Draws (program_by options m.machine.image)
            (begins_plan options (plan_by m.machine.image ahead)) 0 (l ++ coming) steps coming)
            (sym words)
            (begun_plan-subst (unwatched options) m ahead same_completion fresh
            (λ g a k. Draws g a k (r.ran.words ++ coming) steps coming)
            (r.ran.draws coming));
        goes_over =
            begun_plan-subst (unwatched options) m ahead same_completion fresh
            (λ g a k. GoesOver n g 0 [] a steps) r.goes_over;
        stopped =
            begun_plan-subst (unwatched options) m ahead same_completion fresh
            (λ g a k. stops_at n options.complete (units g a steps) steps at ≡ true)
            (subst (λ (c : Completion). stops_at n c (units (program_of m.machine) (moment_at m) steps) steps at ≡ true)
            same_completion
            (subst (λ u. stops_at n m.machine.completion u steps at ≡ true) (sym used) r.stopped));
        most =
            begun_plan-subst (unwatched options) m ahead same_completion fresh (λ g a k. units g a steps ≤ n)
            (omega (arith, used, r.most));
      }

  has_journal : (force : Bool) (last : Option SeenEvent) (count : ℕ) (journal : Parts) (to : ImpreciseState)
      (before after : Oracle) (d : Drawn) (out notes : SinkChange)
      → (r : Records options.steps last journal m to before after d out notes) (tells : before.ahead ≡ Some ahead)
      → (told : Option (List ℕ))
      → ((bytes : List ℕ) → told ≡ Some bytes → IsRecorded options.steps (program_of m.machine) bytes ahead journal)
      → (shown : ShownImprecise) → HasShown false shown r.last_event r.stops.ran.steps (length r.stops.ran.words)
      → HasItsJournal options told (plan_by m.machine.image ahead) shown journal
  unfolding stopped_reads
  has_journal force last count journal to before after d out notes r tells None told shown has = (
    stopped_reads r.last_event to before after d out notes tells r.stops,
    record {
      within = r.within;
      is = r.is ∙ ap (λ (c : Completion). journal_of c r.last_event r.stops.ran.steps) same_completion;
    },
    record {
      end = sym has.end;
      lost = sym has.lost;
      output = sym has.output;
      notes = sym has.notes;
      drawn = sym has.drawn;
    },
  )
  has_journal force last count journal to before after d out notes r tells (Some bytes) told shown has =
      subst (λ (g : Program). IsRecorded options.steps g bytes ahead journal)
      (same_program (unwatched options) m ahead same_completion fresh) (told bytes refl)

  pub runs_on : (force : Bool) (last : Option SeenEvent) (count : ℕ) (journal : Parts) (decision : Decision)
      (to : ImpreciseState) (before after : Oracle) (d : Drawn) (out notes : SinkChange)
      → Records options.steps last journal m to before after d out notes
      → ((bytes : List ℕ) → d.old.left ≡ Some bytes
      → IsRecorded options.steps (program_of m.machine) bytes ahead journal)
      → answer_in d.new.left decision ≡ status_answer d.new.left (answer_status last count) (answer_line last)
      → before.ahead ≡ Some ahead → before.count ≡ Some 0 → after.count ≡ Some count → count < 2 ^ 64
      → (force ≡ false → IsRestartable m.machine.image)
      → RunsOn options force d.old.left (plan_by m.machine.image ahead) journal decision d.new.left out notes
  unfolding whole_of
  runs_on force last count journal decision to before after d out notes r told says tells none now low alone =
      let n = options.steps in
      let w = whole_of n last journal m to before after d out notes r in
      let s = ran_shows_of (unwatched options) m ahead same_completion fresh last
      (n - r.stops.units) to before after d out notes w tells force count none now low alone in
      record {
        shown = s.shows.shown;
        may = s.shows.may;
        has =
            has_journal force last count journal to before after d out notes r tells d.old.left told s.shows.shown
            s.has;
        says = says ∙ λ i. status_answer d.new.left (s.shows.status_is i) (s.shows.line_is i);
        put = s.shows.bytes;
        noted = s.shows.lines;
        left_is = s.shows.left;
      }

  -- whatever its reads were given
  pub record_decides : (force : Bool) (last : Option SeenEvent) (count : ℕ) (journal : Parts) (decision : Decision)
      (to : ImpreciseState) (before after : Oracle) (d : Drawn) (out notes : SinkChange)
      → Records options.steps last journal m to before after d out notes
      → ((bytes : List ℕ) → d.old.left ≡ Some bytes
      → IsRecorded options.steps (program_of m.machine) bytes ahead journal)
      → ((left : Option (List ℕ))
      → answer_in left decision ≡ status_answer left (answer_status last count) (answer_line last))
      → before.ahead ≡ Some ahead → before.count ≡ Some 0 → after.count ≡ Some count → count < 2 ^ 64
      → MayRun force (plan_by m.machine.image ahead)
      → DecidesRecord options force (plan_by m.machine.image ahead) journal decision d out notes
  unfolding stopped_reads
  record_decides force last count journal decision to before after d out notes r told says tells none now low may =
      let words = length r.stops.ran.words in
      let end = end_of_imprecise_event r.last_event in
      let lost = lost_trap r.last_event in
      let e = says None in
      let all = CountsWords-from_zero before.count after.count count words none now r.stops.ran.drew.counted in
      let many : count ≡ words % 2 ^ 64 = omega (arith, all, low) in
      record {
        accepted = may.1;
        ran = record {
          run = stopped_reads r.last_event to before after d out notes tells r.stops;
          has = record {
            within = r.within;
            is = r.is ∙ ap (λ (c : Completion). journal_of c r.last_event r.stops.ran.steps) same_completion;
          };
          answers = r.stops.ran.fed.answers;
          told = λ bytes tells. subst (λ (g : Program). IsRecorded options.steps g bytes ahead journal)
              (same_program (unwatched options) m ahead same_completion fresh) (told bytes tells);
        };
        status_is =
            ap (λ (a : Answer). a.status) e
            ∙ (ap (λ (o : Option SeenEvent). answer_status o count) r.last_is
            ∙ (answer_status-ended_as r.last_event count ∙ ap (imprecise_status end lost) many));
        no_more = ap (λ (a : Answer). a.output) e;
        line_is = ap (λ (a : Answer). a.line) e ∙ (ap answer_line r.last_is ∙ answer_line-ended_as r.last_event);
        put = r.stops.ran.wrote;
        noted = r.stops.ran.noted;
      }

  -- ---- one that was stopped

  -- where it was, whatever its reads were given
  pub record StoppedAt (out notes : SinkChange) : Type 0 where
    pub stop : RecordedByReads options (plan_by m.machine.image ahead)
    pub past : is_within (journal_of options.complete stop.at.last_event stop.steps) ≡ false
    pub put : Puts out (output (seen stop.steps))
    pub noted : Puts notes (notes_of false (seen stop.steps))

  pub result_at : (to : ImpreciseState) (before after : Oracle) (d : Drawn) (out notes : SinkChange)
      → before.ahead ≡ Some ahead
      → IsFull options.steps m to before after d out notes → StoppedAt out notes
  unfolding stopped_reads
  result_at to before after d out notes tells f = record {
    stop = stopped_reads f.last_event to before after d out notes tells f.stops;
    past =
        ap (λ (c : Completion). is_within (journal_of c f.last_event f.stops.ran.steps)) (sym same_completion) ∙ f.past;
    put = f.stops.ran.wrote;
    noted = f.stops.ran.noted;
  }

  -- what the command has then, by whether the input is told
  pub record Stopped (old new : Option (List ℕ)) (out notes : SinkChange) : Type 0 where
    pub steps : List ImpreciseEvent
    pub left : List ℕ
    pub stopped : IsStopped options old (plan_by m.machine.image ahead) steps left
    pub put : Puts out (output (seen steps))
    pub noted : Puts notes (notes_of false (seen steps))
    pub left_is : IfSome (option_map (λ (b : List ℕ). left) old) (λ rest. new ≡ Some rest)

  pub stopped_by : (d : Drawn) (out notes : SinkChange)
      → ((bytes : List ℕ) → d.old.left ≡ Some bytes
      → (k : ChosenRun) × IsPast options.steps (program_of m.machine) bytes ahead k × Shows k d out notes)
      → StoppedAt out notes
      → Stopped d.old.left d.new.left out notes
  stopped_by d out notes told h = by d.old.left refl
    where
      by : (left : Option (List ℕ)) → d.old.left ≡ left → Stopped left d.new.left out notes
      by None is = record {
        steps = h.stop.steps;
        left = [];
        stopped = (h.stop, h.past, refl);
        put = h.put;
        noted = h.noted;
        left_is = tt;
      }
      by (Some bytes) is =
          let k = told bytes is in
          record {
            steps = k.0.run.steps;
            left = k.0.run.left;
            stopped = (
              k.0,
              subst (λ (g : Program). IsPast options.steps g bytes ahead k.0)
                  (same_program (unwatched options) m ahead same_completion fresh) k.1,
              refl,
              refl,
            );
            put = k.2.bytes;
            noted = k.2.lines;
            left_is = k.2.left;
          }

  -- ---- one that a device's fault cut short

  -- fronts of what an answer has were written
  AttemptPrefixes-of : (force : Bool) (name : List ℕ) (w : World) (out notes : SinkChange) (output trace : List ℕ)
      → HasAnswer options force name w (plan_by m.machine.image ahead) output trace
      → WritesPrefix out.old out.new output → WritesPrefix notes.old notes.new trace
      → AttemptPrefixes (on options force name (plan_by m.machine.image ahead)) w out notes
  AttemptPrefixes-of force name w out notes output trace a bytes lines = record {
    answer = a.answer;
    kept = inr refl;
    is = (continues a.answer, a.run, refl);
    bytes = subst (WritesPrefix out.old out.new) (sym a.output_is) bytes;
    lines = subst (WritesPrefix notes.old notes.new) (sym a.trace_is) lines;
  }

  -- where the run goes on to where it stops
  cut_untold : (force : Bool) (name : List ℕ) (fault : Fault) (w : World)
      {new : ImpreciseState} (before after : Oracle) (d : Drawn) (out notes : SinkChange)
      → w.input ≡ None
      → (force ≡ false → IsRestartable m.machine.image)
      → before.ahead ≡ Some ahead → IsShort options.steps fault m new before after d out notes
      → AttemptPrefixes (on options force name (plan_by m.machine.image ahead)) w out notes
  unfolding recorded_by
  cut_untold force name fault w before after d out notes untold alone tells short =
      let n = options.steps in
      let g = program_of m.machine in
      let a = moment_at m in
      let wait = waited_in m.pending in
      let cut = short.cut in
      let list = cut.words ++ cut.label.words in
      let s = OracleDraws-Starts before after ahead list (most_words n) tells cut.drew
      (few_cut fault n false m before after d out notes cut fresh.nothing_pending) in
      let all = cut.steps ++ cut.step.step.last_event ∷ [] in
      let b = step_result_of cut.intended cut.step.step.last_event in
      let used = units g a all in
      let run = prefix-RunsImprecisely fault n false m before after d out notes cut in
      let count =
      units_of_steps-append g cut.steps (cut.step.step.last_event ∷ []) a (step_result_of cut.mid cut.last) cut.runs in
      let e = EndsJournal-some n g used all b (waits_behind all wait) s.coming (omega (arith, count, cut.room)) in
      let steps = all ++ e.steps in
      let ran = RunsImprecisely-append g all e.steps a b e.at run e.runs in
      let drew = Draws-append g all e.steps a b wait (list ++ s.coming) s.coming e.rest run
      (prefix-Draws fault n false m before after d out notes cut s.coming) e.draws in
      let over = GoesOver-append n g all e.steps 0 [] a b run short.goes_over
      (subst (λ u. GoesOver n g u all b e.steps) (let t : used ≡ 0 + used = omega arith in t) e.goes_over) in
      let both = units_of_steps-append g all e.steps a b run in
      let stopped : stops_at n options.complete (units g a steps) steps e.at ≡ true =
      ap (λ u. stops_at n options.complete u steps e.at) both
      ∙ (ap (λ (c : Completion). stops_at n c (used + units g b e.steps) steps e.at) (sym same_completion)
      ∙ e.stopped) in
      let o = unwatched options in
      let r = recorded_by options (plan_by m.machine.image ahead) steps e.at e.rest
      (begun_plan-subst o m ahead same_completion fresh (λ g a k. RunsImprecisely g a steps e.at) ran)
      (begun_plan-subst o m ahead same_completion fresh
      (λ g a k. Draws g a k (first_words (most_words n) ahead) steps e.rest)
      (subst (λ (l : List ℕ). Draws g a wait l steps e.rest) (sym s.is) drew))
      (begun_plan-subst o m ahead same_completion fresh (λ g a k. GoesOver n g 0 [] a steps) over)
      (begun_plan-subst o m ahead same_completion fresh
      (λ g a k. stops_at n options.complete (units g a steps) steps e.at ≡ true) stopped) in
      let written = prefix-WritesPrefix fault n false m before after d out notes cut e.steps steps refl in
      AttemptPrefixes-of force name w out notes (output (seen steps)) (notes_of false (seen steps))
      (untold_answer options force name w (plan_by m.machine.image ahead) untold alone r) written.0 written.1

  pub AttemptPrefixes-by : (force : Bool) (name : List ℕ) (fault : Fault) (w : World)
      {new : ImpreciseState} (before after : Oracle) (d : Drawn) (out notes : SinkChange)
      → (force ≡ false → IsRestartable m.machine.image)
      → before.ahead ≡ Some ahead → IsShort options.steps fault m new before after d out notes
      → ((bytes : List ℕ) → w.input ≡ Some bytes → (k : ChosenRun)
      → StopsAt options.steps (program_of m.machine) bytes ahead k
      → ShowsImprecisePart (shown_chosen_run false k) out notes)
      → BeginsImprecisely (unwatched options) m ahead same_completion fresh force w.input out notes
      → AttemptPrefixes (on options force name (plan_by m.machine.image ahead)) w out notes
  AttemptPrefixes-by force name fault w before after d out notes alone tells short told b = by w.input refl
    where
      past : (bytes : List ℕ) → w.input ≡ Some bytes → (k : ChosenRun)
          → IsPast options.steps (program_by options m.machine.image) bytes ahead k
          → ShowsImprecisePart (shown_chosen_run false k) out notes
      past bytes is k h =
          told bytes is k
          (subst (λ (g : Program). StopsAt options.steps g bytes ahead k)
          (sym (same_program (unwatched options) m ahead same_completion fresh)) h.stops)

      at : (bytes : List ℕ) → w.input ≡ Some bytes
          → ((p : Parts) × IsRecorded options.steps (program_by options m.machine.image) bytes ahead p)
          ⊎ ((k : ChosenRun) × IsPast options.steps (program_by options m.machine.image) bytes ahead k)
          → AttemptPrefixes (on options force name (plan_by m.machine.image ahead)) w out notes
      at bytes is (inl (p, has)) =
          AttemptPrefixes-of force name w out notes b.shown.output b.shown.notes
          (kept_answer options force name w (plan_by m.machine.image ahead) b.shown p b.may
          (subst (λ (o : Option (List ℕ)). HasItsJournal options o (plan_by m.machine.image ahead) b.shown p)
          (sym is) has))
          b.bytes b.lines
      at bytes is (inr (k, h)) =
          let shows = past bytes is k h in
          AttemptPrefixes-of force name w out notes (output (seen k.run.steps)) (notes_of false (seen k.run.steps))
          (stopped_answer options force name w (plan_by m.machine.image ahead) k.run.steps k.run.left
          (subst (λ (l : Option (List ℕ)). IsStopped options l (plan_by m.machine.image ahead) k.run.steps k.run.left)
          (sym is) (k, h, refl, refl)))
          shows.bytes shows.lines

      by : (input : Option (List ℕ)) → w.input ≡ input
          → AttemptPrefixes (on options force name (plan_by m.machine.image ahead)) w out notes
      by None is = cut_untold force name fault w before after d out notes is alone tells short
      by (Some bytes) is = at bytes is (some_end options.steps (program_by options m.machine.image) bytes ahead)

  -- ---- what is done of a plan by it

  module _ {H S K N : Type 0} (h : shelves.Ghosts H) (s : sources.Ghosts S) (k : sinks.Ghosts K) (n : sinks.Ghosts N)
      (old : Devices H S K N) (input : S) (out : K) (notes : N)
      (force : Bool) (name : List ℕ) (d : Decision) where
    -- a run that was stopped, with its line still to be written
    pub stopped_does : SaysAlone JournalFull d
        → Stopped (s.left old.input) (s.left input) (sink_change k old.out out) (sink_change n old.notes notes)
        → s.faults input ≡ s.faults old.input
        → LeavesEnd (drawn s old.input input)
        → CommandEffect h s k n (on options force name (plan_by m.machine.image ahead)) (Ok d) old
        (streamed_devices h s k n old input out notes)
    stopped_does says did same rest =
        let a = full_answer (s.left old.input) did.steps did.left in
        does_whole h s k n old input out notes (on options force name (plan_by m.machine.image ahead)) d a JournalFull
        (status_line JournalFull)
        (continues a, inr (record { steps = did.steps; left = did.left; stopped = did.stopped; is = refl }), refl) says
        refl
        refl did.put did.noted did.left_is refl
        (IsOver-MayTakeBy force name JournalFull (inl refl)) same rest

    -- one without memory, which touched no device
    pub unbegun_does : SaysAlone NoMemory d
        → Rests (drawn s old.input input) → Idles (sink_change k old.out out) → Idles (sink_change n old.notes notes)
        → CommandEffect h s k n (on options force name (plan_by m.machine.image ahead)) (Ok d) old
        (streamed_devices h s k n old input out notes)
    unbegun_does says rests put noted =
        let w = world h s old.shelf old.input in
        does_stream h s k n old input out notes (on options force name (plan_by m.machine.image ahead)) (Ok d)
        (unbegun_tried _ w (answer_in (s.left input) d) (drawn s old.input input) (shelf_change h old.shelf old.shelf)
        (sink_change k old.out out) (sink_change n old.notes notes)
        (starts_not _ _ (on options force name (plan_by m.machine.image ahead)) w _ refl)
        (KeepsFiles-refl (h.files old.shelf)) refl rests put noted (says (s.left input)))
        (IsOver-MayTakeBy force name d.status (inr (inr (inr (ap (λ (a : Answer). a.status) (says None))))))
        (record { later = omega (arith, rests.same); faults_unchanged = λ stays. rests.same })
        (untouched_input (drawn s old.input input) (ap (λ (x : Supply). x.left) rests.left)).0
