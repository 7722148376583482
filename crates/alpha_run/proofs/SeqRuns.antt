-- The sequential machine's steps in a row are a run of the definition.
use Rattle.std.proofs.Common.{◌≡◌, ◌<◌, ℕ, Bool, true, false, List, [], ◌∷◌, ◌++◌, length, Option, Some, None}
use Rattle.std.proofs.Common.{refl, sym, ap, subst, ◌∙◌, append-nil, arith}
use Rattle.std.specs.Io.KnownBytes.{Appends}
use Rattle.alpha_io.specs.SinkChange.{SinkChange, Puts}
use Rattle.alpha_pal.specs.declared.pal_end.Passed.{Passed}
use Rattle.alpha_pal.specs.declared.fault.Fault.{Fault}
use Rattle.alpha_seq.specs.declared.machine.Machine.{Machine}
use Rattle.alpha_seq.specs.declared.event.Event.{Event as SeenEvent}
use Rattle.alpha_seq.specs.State.{Program, Event, Went, Barriered, Overflowed, Ends, Stepped, stepped}
use Rattle.alpha_seq.specs.Step.{next_pc, next_class, step_from}
use Rattle.alpha_seq.specs.Run.{given, is_over, end_of, notes, lines_of, Runs}
use Rattle.alpha_seq.specs.Machine.{program_of, state_of, kernel_left}
use Rattle.alpha_seq.specs.Devices.{Drawn, WritesBetween}
use Rattle.alpha_seq.specs.StepLabel.{StepLabel, is_over as is_last}
use Rattle.alpha_seq.specs.Sequential.{seen_as, SeqStep, SeqStateAfterFault, one_unit}
use Rattle.alpha_imprecise.specs.Oracle.{Oracle}
use Rattle.alpha_run.specs.declared.notes.Notes.{Notes}
use Rattle.alpha_run.specs.Row.{Row, AreGoing, events_of, units_of, lines_by}
use Rattle.alpha_run.specs.Noted.{noted, lines_of as lines_seen, stays, never}
use Rattle.alpha_run.specs.RunEffect.{watching, ContinuesRun, EndsRun, RunsTo, IsPrefixRun}
use Rattle.alpha_run.specs.SeqRun.{kernel_over, ended_by, SeqRan, SeqPrefixRun}
use Rattle.alpha_run.proofs.StepRows.{Row-append, label_units-append, lines-append, events-append}
use Rattle.alpha_run.proofs.NoteLines.{seen-stays}
use Rattle.alpha_run.proofs.EventLines.{IsSaidOf, step_says, said_lines}

-- ---- one step

over_as : (event : Event) (passed : Passed) → is_last (seen_as event passed) ≡ is_over event
over_as Went passed = refl
over_as (Barriered traffic pc regs) passed = refl
over_as (Overflowed at) passed = refl
over_as (Ends end) passed = refl

ended_as : (event : Event) (passed : Passed) → is_over event ≡ true
    → Some (seen_as event passed) ≡ ended_by (end_of event)
ended_as Went passed over = cc
ended_as (Barriered traffic pc regs) passed over = cc
ended_as (Overflowed at) passed over = cc
ended_as (Ends end) passed over = refl

pub end_of-going : (event : Event) → is_over event ≡ false → end_of event ≡ None
end_of-going Went going = refl
end_of-going (Barriered traffic pc regs) going = refl
end_of-going (Overflowed at) going = refl
end_of-going (Ends end) going = cc

seq_finished-is_over : (old : Machine) (p : StepLabel) (new : Machine) (is : SeqStep old p new)
    → is_over is.last_event ≡ is_last p.event
seq_finished-is_over old p new is = sym (over_as is.last_event is.passed) ∙ ap is_last (sym is.event)

-- it is the step of the definition that was given what its event was given
pub step_from-given : (g : Program) (p : StepLabel) (old new : Machine) → program_of old ≡ g → (is : SeqStep old p new)
    → step_from g (state_of old) (given is.last_event) ≡ stepped (state_of new) is.last_event
step_from-given g p old new program is =
    ap (λ (q : Program). step_from q (state_of old) (given is.last_event)) (sym program) ∙ is.is

abbrev pub all_lines : Bool → List StepLabel → List ℕ
all_lines watch ps = lines_by stays lines_seen (record { watch = watch }) ps

step_lines : (watch : Bool) (p : StepLabel) (old new : Machine) (is : SeqStep old p new)
    → lines_of watch is.last_event ≡ noted watch p.event p.core
step_lines watch p old new is =
    let says = subst IsSaidOf is.is
    (step_says (program_of old) (next_class (program_of old) old.pc) (state_of old) (given is.last_event)) in
    said_lines watch is.last_event is.passed new says
    ∙ (ap (λ e. noted watch e new) (sym is.event) ∙ ap (noted watch p.event) (sym is.core))

-- the lines of one step more
pub lines-last : (watch : Bool) (ps : List StepLabel) (p : StepLabel)
    → all_lines watch ps ++ noted watch p.event p.core ≡ all_lines watch (ps ++ p ∷ [])
lines-last watch ps p =
    sym (lines-append stays lines_seen (record { watch = watch }) ps (p ∷ []) ∙ ap (λ l. all_lines watch ps ++ l)
    (append-nil _ ∙ ap (λ (o : Notes). lines_seen o p.event p.core) (seen-stays (record { watch = watch }) ps)))

-- ---- steps in a row

record SeqRanOverRow (g : Program) (watch : Bool) (from last : Event) (events : List Event) (lines : List ℕ)
    (old new : Machine) : Type 0 where
  runs : Runs g (stepped (state_of old) from) events (stepped (state_of new) last)
  kernel : new.kernel ≡ kernel_over g (stepped (state_of old) from) events old.kernel
  program : program_of new ≡ g
  lines_are : notes watch events ≡ lines

none_ran : (g : Program) (watch : Bool) (from : Event) (m : Machine) → program_of m ≡ g
    → SeqRanOverRow g watch from from [] [] m m
none_ran g watch from m program = record { runs = refl; kernel = refl; program = program; lines_are = refl }

one_more : (g : Program) (watch : Bool) (from last : Event)
    (p : StepLabel) (ps : List StepLabel) (old mid new : Machine)
    → program_of old ≡ g → is_over from ≡ false
    → (is : SeqStep old p mid) → SeqRanOverRow g watch is.last_event last (events_of ps) (all_lines watch ps) mid new
    → SeqRanOverRow g watch from last (events_of (p ∷ ps)) (all_lines watch (p ∷ ps)) old new
one_more g watch from last p ps old mid new program going is r =
    let h = is.last_event in
    let step = step_from-given g p old mid program is in
    subst (λ (l : List Event). SeqRanOverRow g watch from last (l ++ events_of ps) (all_lines watch (p ∷ ps)) old new)
    (sym is.seen) (record {
      runs = (
        going,
        ap (λ (t : Stepped). t.event) step,
        subst (λ (t : Stepped). Runs g t (events_of ps) (stepped (state_of new) last)) (sym step) r.runs,
      );
      kernel =
          r.kernel
          ∙ (ap (kernel_over g (stepped (state_of mid) h) (events_of ps)) (is.kernel
          ∙ ap (λ (q : Program). kernel_left (next_class q old.pc) (next_pc (state_of old)) old.regs old.kernel)
          program)
          ∙ ap (λ (t : Stepped). kernel_over g t (events_of ps)
          (kernel_left (next_class g old.pc) (next_pc (state_of old)) old.regs old.kernel)) (sym step));
      program = r.program;
      lines_are =
          ap (λ l. l ++ notes watch (events_of ps)) (step_lines watch p old mid is)
          ∙ ap (λ l. noted watch p.event p.core ++ l) r.lines_are;
    })

-- how the last of the steps went, this where there is none
abbrev last_of : (old new : Machine) → Event → (ps : List StepLabel) → Row SeqStep old ps new → Event
last_of old new event [] row = event
last_of old new event (p ∷ ps) row = last_of row.0 new row.1.last_event ps row.2

is_over-last_event : (old new : Machine) (event : Event) → is_over event ≡ false
    → (ps : List StepLabel) (row : Row SeqStep old ps new) → AreGoing ps
    → is_over (last_of old new event ps row) ≡ false
is_over-last_event old new event e [] row going = e
is_over-last_event old new event e (p ∷ ps) row going =
    is_over-last_event row.0 new row.1.last_event (seq_finished-is_over old p row.0 row.1 ∙ going.0) ps row.2 going.1

row_ran : (g : Program) (watch : Bool) (ps : List StepLabel) (from : Event) (old new : Machine) → program_of old ≡ g
    → is_over from ≡ false
    → (row : Row SeqStep old ps new) → AreGoing ps
    → SeqRanOverRow g watch from (last_of old new from ps row) (events_of ps) (all_lines watch ps) old new
row_ran g watch [] from old new program on row going =
    subst (λ (m : Machine). SeqRanOverRow g watch from from [] [] old m) row (none_ran g watch from old program)
row_ran g watch (p ∷ ps) from old new program on row going =
    one_more g watch from (last_of row.0 new row.1.last_event ps row.2) p ps old row.0 new program on row.1
    (row_ran g watch ps row.1.last_event row.0 new (row.1.program ∙ program)
    (seq_finished-is_over old p row.0 row.1 ∙ going.0) row.2 going.1)

-- and one more
stop_ran : (g : Program) (watch : Bool) (ps : List StepLabel) (p : StepLabel) (from : Event) (old mid new : Machine)
    → program_of old ≡ g → is_over from ≡ false
    → Row SeqStep old ps mid → AreGoing ps → (is : SeqStep mid p new)
    → SeqRanOverRow g watch from is.last_event (events_of (ps ++ p ∷ [])) (all_lines watch (ps ++ p ∷ [])) old new
stop_ran g watch [] p from old mid new program on row going is =
    let here : program_of mid ≡ g = ap program_of (sym row) ∙ program in
    subst
    (λ (m : Machine). SeqRanOverRow g watch from is.last_event (events_of (p ∷ [])) (all_lines watch (p ∷ [])) m new)
    (sym row)
    (one_more g watch from is.last_event p [] mid new new here on is
    (none_ran g watch is.last_event new (is.program ∙ here)))
stop_ran g watch (q ∷ ps) p from old mid new program on row going is =
    one_more g watch from is.last_event q (ps ++ p ∷ []) old row.0 new program on row.1
    (stop_ran g watch ps p row.1.last_event row.0 mid new (row.1.program ∙ program)
    (seq_finished-is_over old q row.0 row.1 ∙ going.0) row.2 going.1 is)

-- each is a unit
units_of-events : (ps : List StepLabel) (old new : Machine) → Row SeqStep old ps new
    → length (events_of ps) ≡ units_of ps
units_of-events [] old new row = refl
units_of-events (p ∷ ps) old new row =
    let one = ap (λ (l : List Event). length (l ++ events_of ps)) row.1.seen in
    omega (arith, one, units_of-events ps row.0 new row.2, row.1.units)

pub events_of-last : (ps : List StepLabel) (p : StepLabel) → events_of (ps ++ p ∷ []) ≡ events_of ps ++ p.seen
events_of-last ps p = events-append ps (p ∷ []) ∙ ap (λ (l : List Event). events_of ps ++ l) (append-nil p.seen)

-- ---- what the run did

SeqRan-spent : (units left : ℕ) (watch : Bool) (old new : Machine) (from to : Notes) (before behind : Oracle)
    (input : Drawn)
    (out sink : SinkChange)
    → from ≡ record { watch = watch } → left < 1
    → ContinuesRun SeqStep (watching stays lines_seen never) units left old new from to before behind input out sink
    → SeqRan None units left watch old new input out sink
SeqRan-spent units left watch old new from to before behind input out sink is least one =
    let ps = one.labels in
    let r = row_ran (program_of old) watch ps Went old new refl refl one.row one.going in
    let last = last_of old new Went ps one.row in
    let count = units_of-events ps old new one.row in
    record {
      events = events_of ps;
      at = stepped (state_of new) last;
      runs = r.runs;
      stands = refl;
      kernel = r.kernel;
      program = r.program;
      used = omega (arith, count, one.used);
      full = λ e. omega (arith, count, one.used, least);
      end = ap ended_by (sym (end_of-going last (is_over-last_event old new Went refl ps one.row one.going)));
      same = one.effect.same;
      wrote = one.effect.wrote;
      noted =
          subst (Puts sink) (ap (λ (o : Notes). lines_by stays lines_seen o ps) is ∙ sym r.lines_are) one.effect.lines;
      fed = one.effect.fed;
    }

SeqRan-ended : (units left : ℕ) (event : SeenEvent) (watch : Bool) (old new : Machine) (from to : Notes)
    (before behind : Oracle)
    (input : Drawn) (out sink : SinkChange)
    → from ≡ record { watch = watch }
    → EndsRun SeqStep (watching stays lines_seen never) units left event old new from to before behind input out sink
    → SeqRan (Some event) units left watch old new input out sink
SeqRan-ended units left event watch old new from to before behind input out sink is one =
    let ps = one.labels in
    let p = one.label in
    let all = ps ++ p ∷ [] in
    let h = one.is.last_event in
    let r = stop_ran (program_of old) watch ps p Went old one.mid new refl refl one.row one.going one.is in
    let count =
    units_of-events all old new (Row-append SeqStep ps (p ∷ []) old one.mid new one.row (new, one.is, refl)) in
    record {
      events = events_of all;
      at = stepped (state_of new) h;
      runs = r.runs;
      stands = refl;
      kernel = r.kernel;
      program = r.program;
      used = omega (arith, count, label_units-append ps (p ∷ []), one.used);
      full = λ e. absurd cc;
      end =
          ap Some (sym one.event_is ∙ one.is.event)
          ∙ ended_as h one.is.passed (seq_finished-is_over one.mid p new one.is ∙ one.ends);
      same = one.effect.same;
      wrote = one.effect.wrote;
      noted =
          subst (Puts sink) (ap (λ (o : Notes). lines_by stays lines_seen o all) is ∙ sym r.lines_are) one.effect.lines;
      fed = one.effect.fed;
    }

-- the run, by its last step
pub run-SeqRan : (last : Option SeenEvent) (units left : ℕ) (watch : Bool) (old new : Machine) (from to : Notes)
    (before behind : Oracle) (input : Drawn) (out sink : SinkChange)
    → from ≡ record { watch = watch }
    → RunsTo last SeqStep one_unit
    (watching stays lines_seen never) units left old new from to before behind input out sink
    → SeqRan last units left watch old new input out sink
run-SeqRan None units left watch old new from to before behind input out sink is did =
    SeqRan-spent units left watch old new from to before behind input out sink is did.0 did.1
run-SeqRan (Some event) units left watch old new from to before behind input out sink is did =
    SeqRan-ended units left event watch old new from to before behind input out sink is did

pub IsPrefixRun-SeqPrefixRun : (fault : Fault) (units left : ℕ) (watch : Bool) (old new : Machine) (from : Notes)
    (before behind : Oracle) (input : Drawn) (out sink : SinkChange)
    → from ≡ record { watch = watch }
    → IsPrefixRun fault SeqStep SeqStateAfterFault
    (watching stays lines_seen never) units left old new from before behind input out sink
    → SeqPrefixRun fault units left watch old new input out sink
IsPrefixRun-SeqPrefixRun fault units left watch old new from before behind input out sink is one =
    let ps = one.labels in
    let p = one.label in
    let r = row_ran (program_of old) watch ps Went old one.mid refl refl one.row one.going in
    let last = last_of old one.mid Went ps one.row in
    let count = units_of-events ps old one.mid one.row in
    let first : lines_by stays lines_seen from ps ≡ notes watch (events_of ps) =
    ap (λ (o : Notes). lines_by stays lines_seen o ps) is ∙ sym r.lines_are in
    let more : lines_by stays lines_seen from (ps ++ p ∷ []) ≡ notes watch (events_of ps ++ p.seen) =
    ap (λ (o : Notes). lines_by stays lines_seen o (ps ++ p ∷ [])) is
    ∙ (sym
    (stop_ran (program_of old) watch ps p Went old one.mid one.intended refl refl one.row one.going one.is).lines_are
    ∙ ap (notes watch) (events_of-last ps p)) in
    record {
      events = events_of ps;
      at = stepped (state_of one.mid) last;
      runs = r.runs;
      going = is_over-last_event old one.mid Went refl ps one.row one.going;
      less = omega (arith, count, one.used, one.is.units);
      used = omega (arith, count, one.used, one.is.units);
      mid = one.mid;
      stands = refl;
      kernel = r.kernel;
      program = r.program;
      label = p;
      intended = one.intended;
      step = one.is;
      left = one.effect.left;
      fed = one.effect.fed;
      would_feed = one.effect.would_feed;
      leaves_end = one.effect.leaves_end;
      written = one.effect.written;
      wrote = one.effect.wrote;
      marked = one.effect.noted;
      marks = subst (Appends sink.old one.effect.noted) first one.effect.notes_are;
      bytes = one.effect.bytes;
      lines = subst (λ l. WritesBetween sink.old sink.new l (notes watch (events_of ps ++ p.seen))) first
          (subst (WritesBetween sink.old sink.new (lines_by stays lines_seen from ps)) more one.effect.lines);
      after_fault = one.after_fault;
      cause = one.cause;
    }
