-- The imprecise machine's steps in a row are a run of the definition.
use Rattle.std.proofs.Common.{◌≡◌, ◌<◌, ◌+◌, ℕ, Bool, true, false, List, [], ◌∷◌, ◌++◌, length, drop, Option, Some}
use Rattle.std.proofs.Common.{None, refl, sym, ap, subst, ◌∙◌, append_assoc, append-nil, arith}
use Rattle.std.specs.List.{flat_map}
use Rattle.std.proofs.lemmas.Grind.{flat_map-append}
use Rattle.std.proofs.Math.Seq.{drop-append_seam}
use Rattle.std.specs.Io.KnownBytes.{Appends}
use Rattle.alpha_io.specs.SinkChange.{SinkChange, Puts}
use Rattle.alpha_pal.specs.declared.pal_end.Passed.{Passed}
use Rattle.alpha_pal.specs.declared.fault.Fault.{Fault}
use Rattle.alpha_seq.specs.declared.event.Event.{Event as SeenEvent}
use Rattle.alpha_seq.specs.State.{Program, Event, Went, Barriered, Overflowed, Ends}
use Rattle.alpha_seq.specs.Step.{next_class}
use Rattle.alpha_seq.specs.Run.{output, notes}
use Rattle.alpha_seq.specs.Machine.{program_of, state_of}
use Rattle.alpha_seq.specs.Devices.{Drawn, Feeds, WritesBetween}
use Rattle.alpha_seq.specs.StepLabel.{StepLabel, is_over}
use Rattle.alpha_imprecise.specs.declared.pending.Pending.{Pending}
use Rattle.alpha_imprecise.specs.StepResult.{ImpreciseEvent, Precisely, Triggered, Waited, Reported, Lost, StepResult}
use Rattle.alpha_imprecise.specs.Step.{imprecise_step}
use Rattle.alpha_imprecise.specs.Run.{seen, finished, given_to, next_step_result, RunsImprecisely, unit_of, units}
use Rattle.alpha_imprecise.specs.Chosen.{Draw, draw, chosen, waited_after, waits_behind, Draws}
use Rattle.alpha_imprecise.specs.Oracle.{Oracle, OracleDraws}
use Rattle.alpha_imprecise.specs.ImpreciseState.{ImpreciseState, trap_in, waited_in, step_result_of, kernel_by}
use Rattle.alpha_imprecise.specs.ImpreciseStepEffect.{shown_as, ImpreciseStep, ImpreciseStateAfterFault}
use Rattle.alpha_imprecise.specs.ImpreciseStepEffect.{imprecise_units}
use Rattle.alpha_imprecise.proofs.ShorterRuns.{over-shown}
use Rattle.alpha_imprecise.proofs.EffectiveChoices.{next_step_result-by}
use Rattle.alpha_run.specs.declared.notes.Notes.{Notes}
use Rattle.alpha_run.specs.Row.{Row, AreGoing, words_of, events_of, units_of, lines_by}
use Rattle.alpha_run.specs.Noted.{noted, lines_of as lines_seen, stays, never}
use Rattle.alpha_run.specs.RunEffect.{Watching, watching, drawn_to, ContinuesRun, EndsRun, RunsTo, IsPrefixRun}
use Rattle.alpha_run.specs.ImpreciseRan.{kernel_after_imprecise, ImpreciseRan, ended_as, ImpreciseRanAs}
use Rattle.alpha_run.specs.ImpreciseRan.{ImprecisePrefixRun}
use Rattle.alpha_run.proofs.StepRows.{label_units-append}
use Rattle.alpha_run.proofs.EventLines.{SaysImprecise, imprecise_says, imprecise_lines}
use Rattle.alpha_run.proofs.SeqRuns.{all_lines, lines-last}
use Rattle.alpha_run.proofs.SeqShown.{notes-append}

-- ---- one step

-- a step's answer says whether the run is over
pub finished-is_over : (old : ImpreciseState) (p : StepLabel) (new : ImpreciseState) → (is : ImpreciseStep old p new)
    → finished is.step.last_event ≡ is_over p.event
finished-is_over old p new is = sym (over-shown is.step.passed is.step.last_event) ∙ ap is_over (sym is.step.event)

-- and how
pub ends-shown : (passed : Passed) (h : ImpreciseEvent) → finished h ≡ true → Some (shown_as passed h) ≡ ended_as h
ends-shown passed (Precisely Went) e = cc
ends-shown passed (Precisely (Barriered traffic pc regs)) e = cc
ends-shown passed (Precisely (Overflowed at)) e = cc
ends-shown passed (Precisely (Ends end)) e = refl
ends-shown passed (Triggered value) e = cc
ends-shown passed (Waited adds value bytes) e = cc
ends-shown passed (Reported at) e = cc
ends-shown passed (Lost pc mask) e = refl

module _ (g : Program) (p : StepLabel) (old new : ImpreciseState) (program : program_of old.machine ≡ g)
    (is : ImpreciseStep old p new) where
  -- by its choice
  by_choice : imprecise_step g (state_of old.machine) (trap_in old.pending) is.choice (given_to is.step.last_event)
      ≡ step_result_of new is.step.last_event
  by_choice =
      ap (λ (q : Program). imprecise_step q (state_of old.machine) (trap_in old.pending) is.choice
      (given_to is.step.last_event)) (sym program) ∙ is.step.is

  -- by what it is said to be
  pub step_is : (from : ImpreciseEvent)
      → next_step_result g (step_result_of old from) is.step.last_event ≡ step_result_of new is.step.last_event
  step_is from =
      next_step_result-by g (step_result_of old from) is.choice is.step.last_event
      (ap (λ (m : StepResult). m.last_event) by_choice)
      ∙ by_choice

  step_draw : (coming : List ℕ)
      → draw g (state_of old.machine) (trap_in old.pending) (waited_in old.pending) (p.words ++ coming)
      ≡ record { choice = is.choice; count = length p.words }
  step_draw coming =
      ap (λ (q : Program). draw q (state_of old.machine) (trap_in old.pending) (waited_in old.pending)
      (p.words ++ coming)) (sym program) ∙ is.draws coming

  -- and by its words, which are all that it draws
  pub step_chosen : (coming : List ℕ)
      → (chosen g (state_of old.machine) (trap_in old.pending) (waited_in old.pending) (p.words ++ coming)
      (given_to is.step.last_event)).last_event ≡ is.step.last_event
  step_chosen coming =
      ap (λ (d : Draw).
      (imprecise_step g (state_of old.machine) (trap_in old.pending) d.choice (given_to is.step.last_event)).last_event)
      (step_draw coming)
      ∙ ap (λ (m : StepResult). m.last_event) by_choice

  pub step_drops : (coming : List ℕ)
      → drop (draw g (state_of old.machine) (trap_in old.pending) (waited_in old.pending) (p.words ++ coming)).count
      (p.words ++ coming) ≡ coming
  step_drops coming =
      ap (λ (d : Draw). drop d.count (p.words ++ coming)) (step_draw coming) ∙ drop-append_seam p.words coming

pub step_lines : (watch : Bool) (p : StepLabel) (old new : ImpreciseState) → (is : ImpreciseStep old p new)
    → notes watch p.seen ≡ noted watch p.event p.core
step_lines watch p old new is =
    let g = program_of old.machine in
    let h = is.step.last_event in
    let says = subst SaysImprecise is.step.is
    (imprecise_says g (next_class g old.machine.pc) (state_of old.machine) (trap_in old.pending) is.choice
    (given_to h)) in
    ap (notes watch) is.step.seen
    ∙ (imprecise_lines watch is.step.passed h new.machine says
    ∙ (ap (λ e. noted watch e new.machine) (sym is.step.event) ∙ ap (noted watch p.event) (sym is.step.core)))

-- ---- steps in a row

-- how they went
abbrev pub steps_of : (old new : ImpreciseState) (ps : List StepLabel) → Row ImpreciseStep old ps new
    → List ImpreciseEvent
steps_of old new [] row = []
steps_of old new (p ∷ ps) row = row.1.step.last_event ∷ steps_of row.0 new ps row.2

-- and the last of them, this where there is none
abbrev pub last_imprecise_event : (old new : ImpreciseState) → ImpreciseEvent → (ps : List StepLabel)
    → Row ImpreciseStep old ps new → ImpreciseEvent
last_imprecise_event old new h [] row = h
last_imprecise_event old new h (p ∷ ps) row = last_imprecise_event row.0 new row.1.step.last_event ps row.2

pub finished-last_imprecise_event : (old new : ImpreciseState) (h : ImpreciseEvent) → finished h ≡ false
    → (ps : List StepLabel) (row : Row ImpreciseStep old ps new) → AreGoing ps
    → finished (last_imprecise_event old new h ps row) ≡ false
finished-last_imprecise_event old new h e [] row going = e
finished-last_imprecise_event old new h e (p ∷ ps) row going =
    finished-last_imprecise_event row.0 new row.1.step.last_event
    (finished-is_over old p row.0 row.1 ∙ going.0) ps row.2 going.1

pub record RanOverRow (g : Program) (watch : Bool) (from last : ImpreciseEvent) (hs : List ImpreciseEvent)
    (ps : List StepLabel) (old new : ImpreciseState) : Type 0 where
  pub runs : RunsImprecisely g (step_result_of old from) hs (step_result_of new last)
  pub seen_is : seen hs ≡ events_of ps
  pub draws : (coming : List ℕ)
      → Draws g (step_result_of old from) (waited_in old.pending) (flat_map words_of ps ++ coming) hs coming
  pub waited : waited_in new.pending ≡ waits_behind hs (waited_in old.pending)
  pub used : units g (step_result_of old from) hs ≡ units_of ps
  pub kernel : new.machine.kernel ≡ kernel_after_imprecise g (step_result_of old from) hs old.machine.kernel
  pub program : program_of new.machine ≡ g
  pub lines : notes watch (events_of ps) ≡ all_lines watch ps

none_ran : (g : Program) (watch : Bool) (from : ImpreciseEvent) (w : ImpreciseState) → program_of w.machine ≡ g
    → RanOverRow g watch from from [] [] w w
none_ran g watch from w program =
    record {
      runs = refl;
      seen_is = refl;
      draws = λ coming. refl;
      waited = refl;
      used = refl;
      kernel = refl;
      program = program;
      lines = refl;
    }

one_more : (g : Program) (watch : Bool) (from last : ImpreciseEvent) (hs : List ImpreciseEvent)
    (p : StepLabel) (ps : List StepLabel) (old mid new : ImpreciseState)
    → program_of old.machine ≡ g → finished from ≡ false
    → (is : ImpreciseStep old p mid) → RanOverRow g watch is.step.last_event last hs ps mid new
    → RanOverRow g watch from last (is.step.last_event ∷ hs) (p ∷ ps) old new
one_more g watch from last hs p ps old mid new program going is r =
    let h = is.step.last_event in
    let a = step_result_of old from in
    let step = step_is g p old mid program is from in
    let wait = waited_in old.pending in
    record {
      runs = (
        going,
        ap (λ (m : StepResult). m.last_event) step,
        subst (λ (m : StepResult). RunsImprecisely g m hs (step_result_of new last)) (sym step) r.runs,
      );
      seen_is =
          ap (λ (l : List Event). l ++ seen hs) (sym is.step.seen) ∙ ap (λ (l : List Event). p.seen ++ l) r.seen_is;
      draws = λ coming.
          let more = flat_map words_of ps ++ coming in
          subst (λ l. Draws g a wait l (h ∷ hs) coming) (sym (append_assoc p.words (flat_map words_of ps) coming)) (
            step_chosen g p old mid program is more,
            subst (λ (m : StepResult). Draws g m (waited_after h wait)
                (drop (draw g a.state a.pending wait (p.words ++ more)).count (p.words ++ more)) hs coming)
                (sym step)
                (subst (λ n. Draws g (step_result_of mid h) n
                (drop (draw g a.state a.pending wait (p.words ++ more)).count (p.words ++ more)) hs coming)
                is.step.waited
                (subst (λ l. Draws g (step_result_of mid h) (waited_in mid.pending) l hs coming)
                (sym (step_drops g p old mid program is more)) (r.draws coming))),
          );
      waited = r.waited ∙ ap (waits_behind hs) is.step.waited;
      used =
          ap (λ (m : StepResult). unit_of (trap_in old.pending) + units g m hs) step
          ∙ (let u = is.step.units in let v = r.used in omega (arith, u, v));
      kernel =
          r.kernel
          ∙ (ap (kernel_after_imprecise g (step_result_of mid h) hs) (is.step.kernel
          ∙ ap (λ (q : Program). kernel_by (trap_in old.pending) (next_class q old.machine.pc)
          (state_of old.machine) (state_of mid.machine) h old.machine.kernel)
          program)
          ∙ ap (λ (m : StepResult). kernel_after_imprecise g m hs (kernel_by (trap_in old.pending)
          (next_class g old.machine.pc) (state_of old.machine) m.state h old.machine.kernel)) (sym step));
      program = r.program;
      lines =
          notes-append watch p.seen (events_of ps)
          ∙ (ap (λ l. l ++ notes watch (events_of ps)) (step_lines watch p old mid is)
          ∙ ap (λ l. noted watch p.event p.core ++ l) r.lines);
    }

pub row_ran : (g : Program) (watch : Bool) (ps : List StepLabel) (from : ImpreciseEvent) (old new : ImpreciseState)
    → program_of old.machine ≡ g → finished from ≡ false
    → (row : Row ImpreciseStep old ps new) → AreGoing ps
    → RanOverRow g watch from (last_imprecise_event old new from ps row) (steps_of old new ps row) ps old new
row_ran g watch [] from old new program on row going =
    subst (λ (w : ImpreciseState). RanOverRow g watch from from [] [] old w) row (none_ran g watch from old program)
row_ran g watch (p ∷ ps) from old new program on row going =
    one_more g watch from (last_imprecise_event row.0 new row.1.step.last_event ps row.2)
    (steps_of row.0 new ps row.2) p ps old row.0 new program on row.1
    (row_ran g watch ps row.1.step.last_event row.0 new (row.1.step.program ∙ program)
    (finished-is_over old p row.0 row.1 ∙ going.0) row.2 going.1)

-- and one more
pub stop_ran : (g : Program) (watch : Bool) (ps : List StepLabel)
    (p : StepLabel) (from : ImpreciseEvent) (old mid new : ImpreciseState)
    → program_of old.machine ≡ g → finished from ≡ false
    → (row : Row ImpreciseStep old ps mid) → AreGoing ps → (is : ImpreciseStep mid p new)
    → RanOverRow g watch from is.step.last_event (steps_of old mid ps row ++ is.step.last_event ∷ [])
    (ps ++ p ∷ []) old new
stop_ran g watch [] p from old mid new program on row going is =
    let h = is.step.last_event in
    let here : program_of mid.machine ≡ g = ap (λ (w : ImpreciseState). program_of w.machine) (sym row) ∙ program in
    subst (λ (w : ImpreciseState). RanOverRow g watch from h (h ∷ []) (p ∷ []) w new) (sym row)
    (one_more g watch from h [] p [] mid new new here on is (none_ran g watch h new (is.step.program ∙ here)))
stop_ran g watch (q ∷ ps) p from old mid new program on row going is =
    one_more g watch from is.step.last_event (steps_of row.0 mid ps row.2 ++ is.step.last_event ∷ []) q
    (ps ++ p ∷ []) old row.0 new program on row.1
    (stop_ran g watch ps p row.1.step.last_event row.0 mid new (row.1.step.program ∙ program)
    (finished-is_over old q row.0 row.1 ∙ going.0) row.2 going.1 is)

pub words-last : (ps : List StepLabel) (p : StepLabel)
    → flat_map words_of (ps ++ p ∷ []) ≡ flat_map words_of ps ++ p.words
words-last ps p = flat_map-append words_of ps (p ∷ []) ∙ ap (λ l. flat_map words_of ps ++ l) (append-nil p.words)

-- ---- what the run did

-- the lines that an observer writes of steps are those of the notes
abbrev pub WritesLines : {O : Type 0} → Watching O → Bool → O → Type 0
WritesLines w watch from = (ps : List StepLabel) → lines_by w.after w.lines from ps ≡ all_lines watch ps

unfoldable pub goes_ran : {O : Type 0} (w : Watching O) (n units left : ℕ) (watch : Bool) (old new : ImpreciseState)
    (from to : O) (before after : Oracle) (input : Drawn) (out sink : SinkChange)
    → WritesLines w watch from → n + left ≡ units
    → (one : ContinuesRun ImpreciseStep w units left old new from to before after input out sink)
    → ImpreciseRan (last_imprecise_event old new (Precisely Went) one.labels one.row) n watch old new before after input
    out sink
goes_ran w n units left watch old new from to before after input out sink writes made one =
    let ps = one.labels in
    let r = row_ran (program_of old.machine) watch ps (Precisely Went) old new refl refl one.row one.going in
    record {
      steps = steps_of old new ps one.row;
      words = flat_map words_of ps;
      drew = one.effect.drew;
      runs = r.runs;
      draws = r.draws;
      waited = r.waited;
      used = omega (arith, r.used, one.used, made);
      kernel = r.kernel;
      program = r.program;
      same = one.effect.same;
      wrote = subst (λ (l : List Event). Puts out (output l)) (sym r.seen_is) one.effect.wrote;
      noted = subst (Puts sink) (writes ps ∙ (sym r.lines ∙ ap (notes watch) (sym r.seen_is))) one.effect.lines;
      fed = subst (Feeds input) (sym r.seen_is) one.effect.fed;
    }

unfoldable pub stopped_ran : {O : Type 0} (w : Watching O) (units left : ℕ) (event : SeenEvent) (watch : Bool)
    (old new : ImpreciseState) (from to : O) (before after : Oracle) (input : Drawn) (out sink : SinkChange)
    → WritesLines w watch from
    → (one : EndsRun ImpreciseStep w units left event old new from to before after input out sink)
    → ImpreciseRan one.is.step.last_event
    (units_of one.labels + one.label.units) watch old new before after input out sink
stopped_ran w units left event watch old new from to before after input out sink writes one =
    let ps = one.labels in
    let p = one.label in
    let all = ps ++ p ∷ [] in
    let r =
    stop_ran (program_of old.machine) watch ps p (Precisely Went) old one.mid new refl refl one.row one.going one.is in
    record {
      steps = steps_of old one.mid ps one.row ++ one.is.step.last_event ∷ [];
      words = flat_map words_of all;
      drew = one.effect.drew;
      runs = r.runs;
      draws = r.draws;
      waited = r.waited;
      used = omega (arith, r.used, label_units-append ps (p ∷ []));
      kernel = r.kernel;
      program = r.program;
      same = one.effect.same;
      wrote = subst (λ (l : List Event). Puts out (output l)) (sym r.seen_is) one.effect.wrote;
      noted = subst (Puts sink) (writes all ∙ (sym r.lines ∙ ap (notes watch) (sym r.seen_is))) one.effect.lines;
      fed = subst (Feeds input) (sym r.seen_is) one.effect.fed;
    }

-- ---- the run, by its last step

none_left : (left : ℕ) (o : Option Pending) → left < unit_of (trap_in o) → (o ≡ None) × (left ≡ 0)
none_left left None least = (refl, omega arith)
none_left left (Some p) least = absurd (omega arith)

writes_notes : (watch : Bool) (from : Notes) → from ≡ record { watch = watch }
    → WritesLines (watching stays lines_seen never) watch from
writes_notes watch from is = λ ps. ap (λ (o : Notes). lines_by stays lines_seen o ps) is

pub run-ImpreciseRanAs : (last : Option SeenEvent) (units left : ℕ) (watch : Bool) (old new : ImpreciseState)
    (from to : Notes)
    (before after : Oracle) (input : Drawn) (out sink : SinkChange)
    → from ≡ record { watch = watch }
    → RunsTo last ImpreciseStep imprecise_units
    (watching stays lines_seen never) units left old new from to before after input out sink
    → ImpreciseRanAs last units left watch old new before after input out sink
run-ImpreciseRanAs None units left watch old new from to before after input out sink is did =
    let one = did.1 in
    let none = none_left left new.pending did.0 in (
      last_imprecise_event old new (Precisely Went) one.labels one.row,
      finished-last_imprecise_event old new (Precisely Went) refl one.labels one.row one.going,
      none.0,
      none.1,
      goes_ran (watching stays lines_seen never) units units left watch old new from to before after input out sink
          (writes_notes watch from is) (omega (arith, none.1)) one,
    )
run-ImpreciseRanAs (Some event) units left watch old new from to before after input out sink is did = (
  did.is.step.last_event,
  units_of did.labels + did.label.units,
  did.used,
  ap Some (sym did.event_is ∙ did.is.step.event)
      ∙ ends-shown did.is.step.passed did.is.step.last_event (finished-is_over did.mid did.label new did.is ∙ did.ends),
  finished-is_over did.mid did.label new did.is ∙ did.ends,
  stopped_ran (watching stays lines_seen never) units left event watch old new from to before after input out sink
      (writes_notes watch from is) did,
)

-- a run that a fault cut short
unfoldable pub IsPrefixRun-ImprecisePrefixRun : {O : Type 0} (w : Watching O) (fault : Fault) (n left : ℕ)
    (watch : Bool)
    (old new : ImpreciseState) (from : O) (before after : Oracle) (input : Drawn) (out sink : SinkChange)
    → WritesLines w watch from
    → IsPrefixRun fault ImpreciseStep ImpreciseStateAfterFault w n left old new from before after input out sink
    → ImprecisePrefixRun fault n left watch old new before after input out sink
IsPrefixRun-ImprecisePrefixRun w fault n left watch old new from before after input out sink writes one =
    let ps = one.labels in
    let p = one.label in
    let r = row_ran (program_of old.machine) watch ps (Precisely Went) old one.mid refl refl one.row one.going in
    let hs = steps_of old one.mid ps one.row in
    let first : lines_by w.after w.lines from ps ≡ notes watch (seen hs) =
    writes ps ∙ (sym r.lines ∙ ap (notes watch) (sym r.seen_is)) in
    let more : lines_by w.after w.lines from (ps ++ p ∷ []) ≡ notes watch (seen hs ++ p.seen) =
    writes (ps ++ p ∷ [])
    ∙ (sym (lines-last watch ps p)
    ∙ (ap (λ l. l ++ noted watch p.event p.core) (sym r.lines)
    ∙ (ap (λ l. notes watch (events_of ps) ++ l) (sym (step_lines watch p one.mid one.intended one.is))
    ∙ (sym (notes-append watch (events_of ps) p.seen)
    ∙ ap (λ (l : List Event). notes watch (l ++ p.seen)) (sym r.seen_is))))) in
    record {
      steps = hs;
      words = flat_map words_of ps;
      last = last_imprecise_event old one.mid (Precisely Went) ps one.row;
      mid = one.mid;
      runs = r.runs;
      going = finished-last_imprecise_event old one.mid (Precisely Went) refl ps one.row one.going;
      draws = r.draws;
      waited = r.waited;
      room = omega (arith, r.used, one.used, one.is.step.units);
      used = omega (arith, r.used, one.used, one.is.step.units);
      kernel = r.kernel;
      program = r.program;
      label = p;
      intended = one.intended;
      step = one.is;
      drew = subst (λ l. OracleDraws before after l) (words-last ps p) one.effect.drew;
      left = one.effect.left;
      fed = subst (Feeds (drawn_to input one.effect.left)) (sym r.seen_is) one.effect.fed;
      would_feed = one.effect.would_feed;
      leaves_end = one.effect.leaves_end;
      written = one.effect.written;
      wrote =
          subst (λ (l : List Event). Appends out.old one.effect.written (output l)) (sym r.seen_is) one.effect.wrote;
      marked = one.effect.noted;
      marks = subst (Appends sink.old one.effect.noted) first one.effect.notes_are;
      bytes =
          subst (λ (l : List Event). WritesBetween out.old out.new (output l) (output (l ++ p.seen)))
          (sym r.seen_is) one.effect.bytes;
      lines = subst (λ l. WritesBetween sink.old sink.new l (notes watch (seen hs ++ p.seen))) first
          (subst (WritesBetween sink.old sink.new (lines_by w.after w.lines from ps)) more one.effect.lines);
      after_fault = one.after_fault;
      cause = one.cause;
    }
