-- From what a run of the imprecise machine did to what is done of a plan by it.
use Rattle.std.proofs.Common.{◌≡◌, ◌++◌, ◌∙◌, ◌<◌, length, ℕ, ◌%◌, ◌^◌, Bool, true, false, List, Option, None, Some}
use Rattle.std.proofs.Common.{IfSome, option_map, Ok, refl, sym, ap, subst, inl, arith}
use Rattle.alpha_io.specs.declared.shelf.Shelf as shelves
use Rattle.alpha_io.specs.declared.source.Source as sources
use Rattle.alpha_io.specs.declared.sink.Sink as sinks
use Rattle.alpha_io.specs.SinkChange.{SinkChange, sink_change, Puts}
use Rattle.alpha_io.specs.Written.{WritesPrefix}
use Rattle.alpha_request.specs.declared.options.RunOptions.{RunOptions}
use Rattle.alpha_seq.specs.declared.event.Event.{Event as SeenEvent}
use Rattle.alpha_pal.specs.declared.fault.Fault.{Fault}
use Rattle.alpha_seq.specs.State.{Program}
use Rattle.alpha_seq.specs.Start.{start}
use Rattle.alpha_seq.specs.Run.{end_of, output, notes as notes_of, sequential}
use Rattle.alpha_seq.specs.Machine.{program_of}
use Rattle.alpha_seq.specs.Devices.{Drawn, LeavesEnd, drawn as drawn_in}
use Rattle.alpha_imprecise.specs.StepResult.{ImpreciseEvent, StepResult}
use Rattle.alpha_imprecise.specs.Run.{seen, imprecise_start, RunsImprecisely, units}
use Rattle.alpha_imprecise.specs.Used.{HasUsed}
use Rattle.alpha_imprecise.specs.Chosen.{Draws}
use Rattle.alpha_imprecise.specs.ChosenRun.{ChosenRun, begun, chosen_run, end_of_imprecise_event, lost_trap}
use Rattle.alpha_imprecise.specs.ChosenRun.{ShownImprecise, shown_chosen_run, first_words, most_words, imprecise_by}
use Rattle.alpha_imprecise.specs.Restart.{IsRestartable}
use Rattle.alpha_imprecise.specs.Shown.{ShowsSame}
use Rattle.alpha_imprecise.specs.Oracle.{Oracle}
use Rattle.alpha_imprecise.specs.Fronts.{IsFrontBy}
use Rattle.alpha_imprecise.specs.ImpreciseState.{ImpreciseState, IsFresh, begun_at, step_result_of, trap_in, waited_in}
use Rattle.alpha_imprecise.proofs.WordDraws.{words_drawn, draws_most}
use Rattle.alpha_imprecise.proofs.DrawnRuns.{chosen_run_with}
use Rattle.alpha_imprecise.proofs.ExactDraws.{OracleDraws-first_words, drawn_exactly}
use Rattle.alpha_imprecise.proofs.FreshRuns.{step_result_of-IsFresh, begun_fresh, OracleDraws-Starts}
use Rattle.alpha_imprecise.proofs.ShownRuns.{runs_alike}
use Rattle.alpha_restart.proofs.Agreement.{IsAccepted-IsRestartable}
use Rattle.alpha_run.specs.ImpreciseRan.{moment_at, ImprecisePrefixRun}
use Rattle.alpha_run.proofs.ImpreciseShown.{CountsWords-from_zero, WholeRun, used_all, few_drawn, told_from, cut_any}
use Rattle.alpha_run.proofs.ImpreciseShown.{few_cut}
use Rattle.alpha_run.proofs.ImpreciseShown.{cut_from}
use Rattle.alpha_cmd.specs.declared.decision.Decision.{Decision}
use Rattle.alpha_cmd.specs.declared.devices.Devices.{Devices}
use Rattle.alpha_cmd.specs.Outcome.{continues}
use Rattle.alpha_cmd.specs.Answer.{Answer}
use Rattle.alpha_cmd.specs.Drawn.{but_drawn}
use Rattle.alpha_cmd.specs.ImpreciseRan.{DecidesImprecise}
use Rattle.alpha_cmd.specs.RunsAsked.{DecidesRun, DecidesPlan}
use Rattle.alpha_cmd.specs.RunAnswer.{program_by}
use Rattle.alpha_cmd.specs.Commands.Imprecise.{plan_by, MayRun, with_drawn, begins_plan, MadeByReads, MayShowImprecise}
use Rattle.alpha_cmd.specs.Commands.Imprecise.{imprecise_status, imprecise_line, answer_status, answer_line}
use Rattle.alpha_cmd.specs.Commands.Imprecise.{answer_imprecise, kind}
use Rattle.alpha_cmd.specs.Commands.Imprecise.{on}
use Rattle.alpha_cmd.specs.AnswerBy.{World, status_answer}
use Rattle.alpha_cmd.specs.Form.{MayTakeBy}
use Rattle.alpha_cmd.specs.Decision.{answer_in}
use Rattle.alpha_cmd.specs.CommandEffect.{CommandEffect}
use Rattle.alpha_cmd.proofs.Commands.Imprecise.{MayShowImprecise-MayLose}
use Rattle.alpha_cmd.proofs.CutShort.{AttemptPrefixes}
use Rattle.alpha_cmd.proofs.ImpreciseEnds.{answer_line-ended_as, may_alone, imprecise_line-run_line}
use Rattle.alpha_cmd.proofs.ImpreciseEnds.{answer_status-ended_as, undrawn_status}
use Rattle.alpha_cmd.proofs.StreamedWrites.{streamed_devices, does_whole}
use Rattle.alpha_cmd.proofs.HasShown.{HasShown, MadeByReads-SameOf, reads_show}

module _ (options : RunOptions) (m : ImpreciseState) (ahead : ℕ → ℕ)
    (same_completion : m.machine.completion ≡ options.complete)
    (fresh : IsFresh m) where
  pub same_program : program_of m.machine ≡ program_by options m.machine.image
  same_program = λ i. record { image = m.machine.image; completion = same_completion i }

  -- what is so of the machine's run is so of the plan's
  pub begun_plan-subst : (P : Program → StepResult → ℕ → Type 0)
      → P (program_of m.machine) (moment_at m) (waited_in m.pending)
      → P (program_by options m.machine.image) (begins_plan options (plan_by m.machine.image ahead)) 0
  begun_plan-subst P h =
      subst (λ (g : Program). P g (imprecise_start (start g)) 0) same_program
      (subst (λ (a : StepResult). P (program_of m.machine) a 0) (step_result_of-IsFresh m fresh)
      (subst (P (program_of m.machine) (moment_at m)) (ap waited_in fresh.nothing_pending) h))

  -- ---- what a run is over any source

  -- a run for all its units, or to its end, by the words that are told
  by_reads : (last : Option SeenEvent) (rest : ℕ) (new : ImpreciseState)
      (before after : Oracle) (d : Drawn) (out notes : SinkChange)
      → WholeRun last options.steps rest options.watch m new before after d out notes
      → before.ahead ≡ Some ahead → MadeByReads options (plan_by m.machine.image ahead)
  by_reads last rest new before after d out notes w tells =
      let steps = w.ran.steps in
      let at = step_result_of new w.last_event in
      let words = OracleDraws-first_words before after ahead w.ran.words tells w.ran.drew in
      record {
        steps = steps;
        at = at;
        drawn = length w.ran.words;
        runs = begun_plan-subst (λ g a n. RunsImprecisely g a steps at) w.ran.runs;
        draws =
            λ coming. subst (λ (l : List ℕ). Draws (program_by options m.machine.image)
            (begins_plan options (plan_by m.machine.image ahead)) 0 (l ++ coming) steps coming)
            (sym words)
            (begun_plan-subst (λ g a n. Draws g a n (w.ran.words ++ coming) steps coming) (w.ran.draws coming));
        used = begun_plan-subst (λ g a n. HasUsed options.steps (units g a steps) at)
            (subst (λ u. HasUsed options.steps u at) (sym w.ran.used)
            (used_all last options.steps rest options.watch m new before after d out notes w));
      }

  -- one whose front is there
  front_reads : (words : List ℕ) (out notes : SinkChange) → first_words (most_words options.steps) ahead ≡ words
      → IsFrontBy options.steps options.watch m words out notes
      → MadeByReads options (plan_by m.machine.image ahead)
  front_reads words out notes same f =
      let p = program_of m.machine in
      let a = moment_at m in
      let wait = waited_in m.pending in
      let n = most_words options.steps in
      let list = first_words n ahead in
      let draws = subst (λ (l : List ℕ). Draws p a wait l f.steps f.rest) (sym same) f.draws in
      let most = draws_most p f.steps a f.at wait list f.rest (ap trap_in fresh.nothing_pending) f.runs draws in
      let d = words_drawn p a wait list f.steps in
      record {
        steps = f.steps;
        at = f.at;
        drawn = d;
        runs = begun_plan-subst (λ g b w. RunsImprecisely g b f.steps f.at) f.runs;
        draws =
            begun_plan-subst (λ g b w. (coming : List ℕ) → Draws g b w (first_words d ahead ++ coming) f.steps coming)
            (drawn_exactly p f.steps a wait n ahead f.rest draws (omega (arith, most, f.used.most)));
        used = begun_plan-subst (λ g b w. HasUsed options.steps (units g b f.steps) f.at) f.used;
      }

  told_as : (bytes words : List ℕ)
      → chosen_run (program_of m.machine) (begun_at m bytes words) options.steps
      ≡ chosen_run (program_by options m.machine.image)
      (begun (start (program_by options m.machine.image)) bytes None 0 words) options.steps
  told_as bytes words =
      ap (λ (k : ChosenRun). chosen_run (program_of m.machine) k options.steps) (begun_fresh m bytes words fresh)
      ∙ ap (λ (g : Program). chosen_run g (begun (start g) bytes None 0 words) options.steps) same_program

  -- ---- what the command may show of such a run

  record MayShowOf (force : Bool) (told : Option (List ℕ)) (last : ImpreciseEvent) (steps : List ImpreciseEvent)
      (count : ℕ) (rest : List ℕ) : Type 0 where
    shown : ShownImprecise
    may : MayShowImprecise options force told (plan_by m.machine.image ahead) shown
    has : HasShown options.watch shown last steps count
    left : IfSome (option_map (λ (b : List ℕ). shown.left) told) (λ l. rest ≡ l)

  -- over an input that is told
  told_shows : (force : Bool) (bytes : List ℕ) (k : ChosenRun) → k ≡ chosen_run (program_of m.machine)
      (begun_at m bytes (first_words (most_words options.steps) ahead)) options.steps
      → (force ≡ false → IsRestartable m.machine.image)
      → MayShowOf force (Some bytes) k.run.at.last_event k.run.steps k.count k.run.left
  told_shows true bytes k is alone = record {
    shown = shown_chosen_run options.watch k;
    may = ap (shown_chosen_run options.watch) (is ∙ told_as bytes (first_words (most_words options.steps) ahead));
    has = record { end = refl; lost = refl; output = refl; notes = refl; drawn = refl };
    left = refl;
  }
  told_shows false bytes k is alone =
      let g = program_by options m.machine.image in
      let words = first_words (most_words options.steps) ahead in
      let at = is ∙ told_as bytes words in
      let same : ShowsSame (sequential g bytes options.steps options.watch)
      (imprecise_by g bytes ahead options.steps options.watch) =
      runs_alike m.machine.image (alone refl) options.complete bytes words options.steps options.watch in
      record {
        shown =
            with_drawn (sequential g bytes options.steps options.watch)
            (imprecise_by g bytes ahead options.steps options.watch).drawn;
        may = refl;
        has = record {
          end = ap (λ (j : ChosenRun). end_of_imprecise_event j.run.at.last_event) at ∙ same.end;
          lost = ap (λ (j : ChosenRun). lost_trap j.run.at.last_event) at ∙ same.lost;
          output = ap (λ (j : ChosenRun). output (seen j.run.steps)) at ∙ same.output;
          notes = ap (λ (j : ChosenRun). notes_of options.watch (seen j.run.steps)) at ∙ same.notes;
          drawn = ap (λ (j : ChosenRun). j.count) at;
        };
        left = ap (λ (j : ChosenRun). j.run.left) at ∙ same.left;
      }

  -- ---- a run that was made: what it shows was written, and this is left

  -- by the step behind which it is over, and as many words as were drawn
  pub record ShowsImpreciseRun (force : Bool) (last : Option SeenEvent) (drawn : ℕ) (old new : Option (List ℕ))
      (out notes : SinkChange) : Type 0 where
    pub shown : ShownImprecise
    pub may : MayShowImprecise options force old (plan_by m.machine.image ahead) shown
    pub status_is : answer_status last drawn ≡ imprecise_status shown.end shown.lost (shown.drawn % 2 ^ 64)
    pub line_is : answer_line last ≡ imprecise_line shown.end shown.lost
    pub bytes : Puts out shown.output
    pub lines : Puts notes shown.notes
    pub left : IfSome (option_map (λ (b : List ℕ). shown.left) old) (λ rest. new ≡ Some rest)

  module _ (last : Option SeenEvent) (rest : ℕ) (new : ImpreciseState) (before after : Oracle) (d : Drawn)
      (out notes : SinkChange) (w : WholeRun last options.steps rest options.watch m new before after d out notes)
      (tells : before.ahead ≡ Some ahead) where
    record Made (force : Bool) (told : Option (List ℕ)) : Type 0 where
      shown : ShownImprecise
      may : MayShowImprecise options force told (plan_by m.machine.image ahead) shown
      has : HasShown options.watch shown w.last_event w.ran.steps (length w.ran.words)
      left : IfSome (option_map (λ (b : List ℕ). shown.left) told) (λ l. d.new.left ≡ Some l)

    may_show : (force : Bool) (told : Option (List ℕ)) → d.old.left ≡ told
        → (force ≡ false → IsRestartable m.machine.image) → Made force told
    unfolding by_reads
    may_show force None is alone =
        let s = reads_show options force (plan_by m.machine.image ahead)
        (by_reads last rest new before after d out notes w tells) alone in
        record { shown = s.shown; may = s.may; has = s.has; left = tt }
    may_show force (Some bytes) is alone =
        let s = OracleDraws-Starts before after ahead w.ran.words (most_words options.steps) tells w.ran.drew
        (few_drawn last options.steps rest options.watch m new before after d out notes w fresh.nothing_pending) in
        let fed = w.ran.fed.told bytes is in
        let there =
        told_from last options.steps rest options.watch m new before after d out notes w bytes s.coming fed.0 fed.1 in
        let k =
        chosen_run_with (step_result_of new w.last_event) w.ran.steps fed.0 w.count there.0 s.coming
        (length w.ran.words) in
        let all = sym there.1
        ∙ ap (λ (l : List ℕ). chosen_run (program_of m.machine) (begun_at m bytes l) options.steps) (sym s.is) in
        let shows = told_shows force bytes k all alone in
        record {
          shown = shows.shown;
          may = shows.may;
          has = shows.has;
          left = fed.2 ∙ ap (λ (l : List ℕ). Some l) shows.left;
        }

    -- which is what these steps show
    pub record ShowsOf (force : Bool) (drawn : ℕ) : Type 0 where
      pub shows : ShowsImpreciseRun force last drawn d.old.left d.new.left out notes
      pub has : HasShown options.watch shows.shown w.last_event w.ran.steps (length w.ran.words)

    pub ran_shows_of : (force : Bool) (drawn : ℕ) → before.count ≡ Some 0 → after.count ≡ Some drawn → drawn < 2 ^ 64
        → (force ≡ false → IsRestartable m.machine.image) → ShowsOf force drawn
    ran_shows_of force drawn none now low alone =
        let may = may_show force d.old.left refl alone in
        let all =
        CountsWords-from_zero before.count after.count drawn (length w.ran.words) none now w.ran.drew.counted in
        let many : drawn ≡ may.shown.drawn % 2 ^ 64 = omega (arith, all, low, may.has.drawn) in
        record {
          shows = record {
            shown = may.shown;
            may = may.may;
            status_is =
                ap (λ (o : Option SeenEvent). answer_status o drawn) w.last_is
                ∙ (answer_status-ended_as w.last_event drawn
                ∙ λ i. imprecise_status (may.has.end i) (may.has.lost i) (many i));
            line_is =
                ap answer_line w.last_is
                ∙ (answer_line-ended_as w.last_event ∙ λ i. imprecise_line (may.has.end i) (may.has.lost i));
            bytes = subst (Puts out) may.has.output w.ran.wrote;
            lines = subst (Puts notes) may.has.notes w.ran.noted;
            left = may.left;
          };
          has = may.has;
        }

    -- it is a run of the sequential machine, where the program can be restarted
    imprecise-DecidesAsked : (drawn : ℕ) → IsRestartable m.machine.image → (decision : Decision)
        → ((left : Option (List ℕ))
        → answer_in left decision ≡ status_answer left (answer_status last drawn) (answer_line last))
        → DecidesRun options m.machine.image decision d out notes
    unfolding by_reads
    imprecise-DecidesAsked drawn restarts decision says =
        let q = MadeByReads-SameOf options (plan_by m.machine.image ahead) restarts
        (by_reads last rest new before after d out notes w tells) in
        let end = end_of q.last.event in
        let e = says None in
        let status : answer_status last drawn ≡ imprecise_status end None drawn =
        ap (λ (o : Option SeenEvent). answer_status o drawn) w.last_is
        ∙ (answer_status-ended_as w.last_event drawn ∙ λ i. imprecise_status (q.end i) (q.lost i) drawn) in
        let line : answer_line last ≡ imprecise_line end None =
        ap answer_line w.last_is ∙ (answer_line-ended_as w.last_event ∙ λ i. imprecise_line (q.end i) (q.lost i)) in
        record {
          ran = record {
            run = record { events = seen w.ran.steps; at = q.last; runs = q.runs; made = q.made };
            answers = w.ran.fed.answers;
          };
          status_is = ap (λ (a : Answer). but_drawn a.status) e ∙ (ap but_drawn status ∙ undrawn_status end drawn);
          no_more = ap (λ (a : Answer). a.output) e;
          line_is = ap (λ (a : Answer). a.line) e ∙ (line ∙ imprecise_line-run_line end);
          put = w.ran.wrote;
          noted = w.ran.noted;
        }

    -- it is a run of the imprecise machine by these words
    seeded_made : (drawn : ℕ) → before.count ≡ Some 0 → after.count ≡ Some drawn → drawn < 2 ^ 64
        → (decision : Decision)
        → ((left : Option (List ℕ))
        → answer_in left decision ≡ status_answer left (answer_status last drawn) (answer_line last))
        → DecidesImprecise options (plan_by m.machine.image ahead) decision d out notes
    unfolding by_reads
    seeded_made drawn none now low decision says =
        let made = by_reads last rest new before after d out notes w tells in
        let end = end_of_imprecise_event w.last_event in
        let lost = lost_trap w.last_event in
        let e = says None in
        let all =
        CountsWords-from_zero before.count after.count drawn (length w.ran.words) none now w.ran.drew.counted in
        let many : drawn ≡ length w.ran.words % 2 ^ 64 = omega (arith, all, low) in
        record {
          ran = record { run = made; answers = w.ran.fed.answers };
          status_is =
              ap (λ (a : Answer). a.status) e
              ∙ (ap (λ (o : Option SeenEvent). answer_status o drawn) w.last_is
              ∙ (answer_status-ended_as w.last_event drawn ∙ ap (imprecise_status end lost) many));
          no_more = ap (λ (a : Answer). a.output) e;
          line_is = ap (λ (a : Answer). a.line) e ∙ (ap answer_line w.last_is ∙ answer_line-ended_as w.last_event);
          put = w.ran.wrote;
          noted = w.ran.noted;
        }

    -- by whether the verdict is passed over
    pub made_by_words : (force : Bool) (drawn : ℕ) → before.count ≡ Some 0 → after.count ≡ Some drawn → drawn < 2 ^ 64
        → MayRun force (plan_by m.machine.image ahead) → (decision : Decision)
        → ((left : Option (List ℕ))
        → answer_in left decision ≡ status_answer left (answer_status last drawn) (answer_line last))
        → DecidesPlan options force (plan_by m.machine.image ahead) decision d out notes
    made_by_words false drawn none now low may decision says = (
      may.1 refl,
      imprecise-DecidesAsked drawn (may_alone false (plan_by m.machine.image ahead) may refl) decision says,
    )
    made_by_words true drawn none now low may decision says = (
      seeded_made drawn none now low decision says,
      λ accepted. imprecise-DecidesAsked drawn (IsAccepted-IsRestartable m.machine.image may.0 accepted) decision says,
    )

    pub ran_shows : (force : Bool) (drawn : ℕ) → before.count ≡ Some 0 → after.count ≡ Some drawn → drawn < 2 ^ 64
        → (force ≡ false → IsRestartable m.machine.image)
        → ShowsImpreciseRun force last drawn d.old.left d.new.left out notes
    ran_shows force drawn none now low alone = (ran_shows_of force drawn none now low alone).shows

  -- ---- a run that was cut short: fronts of what it would have shown were written

  pub record BeginsImprecisely (force : Bool) (old : Option (List ℕ)) (out notes : SinkChange) : Type 0 where
    pub shown : ShownImprecise
    pub may : MayShowImprecise options force old (plan_by m.machine.image ahead) shown
    pub bytes : WritesPrefix out.old out.new shown.output
    pub lines : WritesPrefix notes.old notes.new shown.notes

  pub cut_begins : (force : Bool) (fault : Fault) {rest : ℕ} {new : ImpreciseState}
      (before after : Oracle) (d : Drawn) (out notes : SinkChange)
      → ImprecisePrefixRun fault options.steps rest options.watch m new before after d out notes
      → before.ahead ≡ Some ahead → (force ≡ false → IsRestartable m.machine.image) → (told : Option (List ℕ))
      → d.old.left ≡ told → BeginsImprecisely force told out notes
  unfolding front_reads
  cut_begins force fault before after d out notes cut tells alone None is =
      let words = cut.words ++ cut.label.words in
      let s = OracleDraws-Starts before after ahead words (most_words options.steps) tells cut.drew
      (few_cut fault options.steps options.watch m before after d out notes cut fresh.nothing_pending) in
      let front = cut_any fault options.steps options.watch m before after d out notes cut s.coming in
      let may = reads_show options force (plan_by m.machine.image ahead)
      (front_reads (words ++ s.coming) out notes s.is front) alone in
      record {
        shown = may.shown;
        may = may.may;
        bytes = subst (WritesPrefix out.old out.new) may.has.output front.bytes;
        lines = subst (WritesPrefix notes.old notes.new) may.has.notes front.lines;
      }
  cut_begins force fault before after d out notes cut tells alone (Some bytes) is =
      let words = cut.words ++ cut.label.words in
      let s = OracleDraws-Starts before after ahead words (most_words options.steps) tells cut.drew
      (few_cut fault options.steps options.watch m before after d out notes cut fresh.nothing_pending) in
      let part = cut_from fault options.steps options.watch m before after d out notes cut bytes s.coming is in
      let k = chosen_run (program_of m.machine) (begun_at m bytes (words ++ s.coming)) options.steps in
      let may = told_shows force bytes k
      (ap (λ (l : List ℕ). chosen_run (program_of m.machine) (begun_at m bytes l) options.steps) (sym s.is)) alone in
      record {
        shown = may.shown;
        may = may.may;
        bytes = subst (WritesPrefix out.old out.new) may.has.output part.0;
        lines = subst (WritesPrefix notes.old notes.new) may.has.notes part.1;
      }

  -- ---- what is done of a plan by it

  -- the status is one of an end
  shows_takes : (force : Bool) (last : Option SeenEvent) (drawn : ℕ) (old new : Option (List ℕ))
      (out notes : SinkChange)
      → ShowsImpreciseRun force last drawn old new out notes
      → MayTakeBy (kind force) (answer_status last drawn)
  shows_takes force last drawn old new out notes did =
      let lost = MayShowImprecise-MayLose options force old (plan_by m.machine.image ahead) did.shown did.may in
      (refl, inl (did.shown.end, (did.shown.lost, (did.shown.drawn % 2 ^ 64, lost, did.status_is))))

  -- a run that was made, with the status and the line of its end still to be written
  pub ran_whole : {H S K N : Type 0} (h : shelves.Ghosts H) (s : sources.Ghosts S) (k : sinks.Ghosts K)
      (n : sinks.Ghosts N) (old : Devices H S K N) (input : S) (out : K) (notes : N)
      (force : Bool) (last : Option SeenEvent) (drawn : ℕ) (d : Decision)
      → ((left : Option (List ℕ)) → answer_in left d ≡ status_answer left (answer_status last drawn) (answer_line last))
      → ShowsImpreciseRun force last drawn (s.left old.input) (s.left input)
      (sink_change k old.out out) (sink_change n old.notes notes)
      → s.faults input ≡ s.faults old.input
      → LeavesEnd (drawn_in s old.input input)
      → CommandEffect h s k n (on options force (plan_by m.machine.image ahead)) (Ok d) old
      (streamed_devices h s k n old input out notes)
  ran_whole h s k n old input out notes force last drawn d says did same rest =
      let a = answer_imprecise (s.left old.input) did.shown in
      does_whole h s k n old input out notes (on options force (plan_by m.machine.image ahead)) d a
      (answer_status last drawn) (answer_line last)
      (continues a, (did.shown, did.may, refl), refl) says did.status_is did.line_is did.bytes did.lines did.left refl
      (shows_takes force last drawn (s.left old.input) (s.left input) (sink_change k old.out out)
      (sink_change n old.notes notes) did) same rest

  -- one that was cut short
  pub cut_fronts : (force : Bool) (w : World) (out notes : SinkChange) → BeginsImprecisely force w.input out notes
      → AttemptPrefixes (on options force (plan_by m.machine.image ahead)) w out notes
  cut_fronts force w out notes b = record {
    answer = answer_imprecise w.input b.shown;
    kept = inl refl;
    is = (continues (answer_imprecise w.input b.shown), (b.shown, b.may, refl), refl);
    bytes = b.bytes;
    lines = b.lines;
  }
