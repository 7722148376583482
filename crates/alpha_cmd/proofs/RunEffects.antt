-- From what a machine's run did to what is done of an image by it.
use Rattle.std.proofs.Common.{◌≡◌, ◌∙◌, ℕ, List, Option, None, Some, IfSome, option_map, Ok, refl, sym, ap, subst, inl}
use Rattle.std.proofs.Common.{arith}
use Rattle.alpha_io.specs.declared.shelf.Shelf as shelves
use Rattle.alpha_io.specs.declared.source.Source as sources
use Rattle.alpha_io.specs.declared.sink.Sink as sinks
use Rattle.alpha_io.specs.SinkChange.{SinkChange, sink_change, Puts}
use Rattle.alpha_io.specs.Written.{WritesPrefix}
use Rattle.alpha_request.specs.declared.options.RunOptions.{RunOptions}
use Rattle.alpha_seq.specs.declared.end.End.{End}
use Rattle.alpha_seq.specs.declared.event.Event.{Event}
use Rattle.alpha_pal.specs.declared.fault.Fault.{Fault}
use Rattle.alpha_seq.specs.declared.machine.Machine.{Machine}
use Rattle.alpha_seq.specs.State.{Program, State, Event as Happened, Stepped}
use Rattle.alpha_seq.specs.Start.{start}
use Rattle.alpha_seq.specs.Run.{begins, Runs, Shown, after, shown, sequential}
use Rattle.alpha_seq.specs.Machine.{program_of, state_of}
use Rattle.alpha_seq.specs.Devices.{Drawn, LeavesEnd, drawn}
use Rattle.alpha_seq.specs.Fronts.{HasMade}
use Rattle.alpha_seq.specs.Notes.{end_line}
use Rattle.alpha_run.specs.SeqRun.{ended_by, SeqRan, SeqPrefixRun}
use Rattle.alpha_run.proofs.SeqShown.{told_all, cut_any, cut_told}
use Rattle.alpha_cmd.specs.declared.decision.Decision.{Decision}
use Rattle.alpha_cmd.specs.declared.devices.Devices.{Devices}
use Rattle.alpha_cmd.specs.declared.status.Status.{Status}
use Rattle.alpha_cmd.specs.Outcome.{continues}
use Rattle.alpha_cmd.specs.Commands.Run.{shown_by, MayShow, on}
use Rattle.alpha_cmd.specs.Commands.Imprecise.{answer_status, answer_line}
use Rattle.alpha_cmd.specs.RunAnswer.{RunByReads, run_status, run_line, program_by, answer_shown}
use Rattle.alpha_cmd.specs.AnswerBy.{World, status_answer}
use Rattle.alpha_cmd.specs.Decision.{answer_in}
use Rattle.alpha_cmd.specs.CommandEffect.{CommandEffect}
use Rattle.alpha_cmd.proofs.Commands.Run.{none_drawn, takes_end}
use Rattle.alpha_cmd.proofs.CutShort.{AttemptPrefixes}
use Rattle.alpha_cmd.proofs.StreamedWrites.{streamed_devices, does_whole}

-- a machine at the start of an image's program
pub record IsStarted (options : RunOptions) (m : Machine) : Type 0 where
  pub completion : m.completion ≡ options.complete
  pub state : state_of m ≡ start (program_of m)

-- its run shows what the command may over an input that tells nothing
reads_may : (options : RunOptions) (m : Machine) (events : List Happened) (b : Stepped) → IsStarted options m
    → Runs (program_of m) (begins (state_of m)) events b
    → HasMade options.steps events b → MayShow options None m.image (shown_by options.watch events b)
reads_may options m events b at runs made =
    let same : program_of m ≡ program_by options m.image =
    λ i. record { image = m.image; completion = at.completion i } in
    let first = subst (λ (s : State). Runs (program_of m) (begins s) events b) at.state runs in
    let r : RunByReads options m.image =
    record {
      events = events;
      at = b;
      runs = subst (λ (g : Program). Runs g (begins (start g)) events b) same first;
      made = made;
    } in
    (r, refl)

-- its run is the sequential one
started_shows : (options : RunOptions) (m : Machine) (bytes : List ℕ) → IsStarted options m
    → shown options.watch (after (program_of m) (state_of m) bytes options.steps)
    ≡ sequential (program_by options m.image) bytes options.steps options.watch
started_shows options m bytes at =
    let first = ap (λ (s : State). shown options.watch (after (program_of m) s bytes options.steps)) at.state in
    let same : program_of m ≡ program_by options m.image =
    λ i. record { image = m.image; completion = at.completion i } in
    first ∙ ap (λ (g : Program). shown options.watch (after g (start g) bytes options.steps)) same

-- ---- a run that was made: what it shows was written, and this is left

pub record ShowsSequentialRun (options : RunOptions) (m : Machine) (last : Option Event) (input : Drawn)
    (out notes : SinkChange) : Type 0 where
  pub shown : Shown
  pub may : MayShow options input.old.left m.image shown
  pub last_is : last ≡ ended_by shown.end
  pub bytes : Puts out shown.output
  pub lines : Puts notes shown.notes
  pub left : IfSome (option_map (λ (b : List ℕ). shown.left) input.old.left) (λ rest. input.new.left ≡ Some rest)

going_none : (e : Option End) → e ≡ None → None ≡ ended_by e
going_none None h = refl
going_none (Some end) h = cc

module _ (options : RunOptions) (last : Option Event) (rest : ℕ) (old new : Machine) (input : Drawn)
    (out notes : SinkChange) (at : IsStarted options old)
    (ran : SeqRan last options.steps rest options.watch old new input out notes) where
  HasMade-ran : HasMade options.steps ran.events ran.at
  HasMade-ran = record { most = omega (arith, ran.used); full = λ none. ran.full (ran.end ∙ ap ended_by none) }

  by_told : (told : Option (List ℕ)) → input.old.left ≡ told
      → ShowsSequentialRun options old last (record input { old = record input.old { left = told } }) out notes
  by_told None is = record {
    shown = shown_by options.watch ran.events ran.at;
    may = reads_may options old ran.events ran.at at ran.runs HasMade-ran;
    last_is = ran.end;
    bytes = ran.wrote;
    lines = ran.noted;
    left = tt;
  }
  by_told (Some bytes) is =
      let fed = ran.fed.told bytes is in
      let all = told_all last options.steps rest options.watch old new input out notes ran bytes fed.0 fed.1 in
      record {
        shown = shown options.watch (record { at = ran.at; events = ran.events; left = fed.0 });
        may = ap (shown options.watch) (sym all) ∙ started_shows options old bytes at;
        last_is = ran.end;
        bytes = ran.wrote;
        lines = ran.noted;
        left = fed.2;
      }

  pub ran_shows : ShowsSequentialRun options old last input out notes
  ran_shows = by_told input.old.left refl

-- ---- a run that was cut short: fronts of what it would have shown were written

record Begins (options : RunOptions) (m : Machine) (left : Option (List ℕ)) (out notes : SinkChange) : Type 0 where
  shown : Shown
  may : MayShow options left m.image shown
  bytes : WritesPrefix out.old out.new shown.output
  lines : WritesPrefix notes.old notes.new shown.notes

cut_begins : (options : RunOptions) (fault : Fault) (m : Machine)
    {rest : ℕ} {new : Machine} (input : Drawn) (out notes : SinkChange)
    → IsStarted options m
    → SeqPrefixRun fault options.steps rest options.watch m new input out notes → (told : Option (List ℕ))
    → input.old.left ≡ told → Begins options m told out notes
cut_begins options fault m input out notes at cut None is =
    let front = cut_any fault options.steps options.watch m input out notes cut in
    record {
      shown = shown_by options.watch front.events front.at;
      may = reads_may options m front.events front.at at front.runs front.made;
      bytes = front.bytes;
      lines = front.lines;
    }
cut_begins options fault m input out notes at cut (Some bytes) is =
    let part = cut_told fault options.steps options.watch m input out notes cut bytes is in
    record {
      shown = shown options.watch (after (program_of m) (state_of m) bytes options.steps);
      may = started_shows options m bytes at;
      bytes = part.0;
      lines = part.1;
    }

-- ---- the status and the line of a run that was made

pub answer_status-run_end : (left : Option (List ℕ)) (last : Option Event) (end : Option End) → last ≡ ended_by end
    → status_answer left (answer_status last 0) (answer_line last) ≡ status_answer left (run_status end) (run_line end)
answer_status-run_end left last None is =
    ap (λ (o : Option Event). status_answer left (answer_status o 0) (answer_line o)) is
answer_status-run_end left last (Some end) is =
    ap (λ (o : Option Event). status_answer left (answer_status o 0) (answer_line o)) is
    ∙ ap (λ (status : Status). status_answer left status (end_line end)) (none_drawn end)

-- ---- what is done of an image by it

-- a run that was made, with the status and the line of its end still to be written
pub CommandEffect-run_made : {H S K N : Type 0} (h : shelves.Ghosts H) (s : sources.Ghosts S) (k : sinks.Ghosts K)
    (n : sinks.Ghosts N) (old : Devices H S K N) (input : S) (out : K) (notes : N)
    (options : RunOptions) (m : Machine) (last : Option Event) (d : Decision)
    → ((left : Option (List ℕ)) → answer_in left d ≡ status_answer left (answer_status last 0) (answer_line last))
    → ShowsSequentialRun options m last (drawn s old.input input) (sink_change k old.out out)
    (sink_change n old.notes notes)
    → s.faults input ≡ s.faults old.input
    → LeavesEnd (drawn s old.input input)
    → CommandEffect h s k n (on options m.image) (Ok d) old (streamed_devices h s k n old input out notes)
CommandEffect-run_made h s k n old input out notes options m last d says did same rest =
    let a = answer_shown (s.left old.input) did.shown in
    let end = did.shown.end in
    does_whole h s k n old input out notes (on options m.image) d a (run_status end) (run_line end)
    (continues a, (did.shown, did.may, refl), refl)
    (λ left. says left ∙ answer_status-run_end left last end did.last_is)
    refl refl did.bytes did.lines did.left refl (takes_end end) same rest

-- one that was cut short
pub AttemptPrefixes-cut_run : (options : RunOptions) (m : Machine) (w : World) (fault : Fault)
    {rest : ℕ} {new : Machine} (d : Drawn) (out notes : SinkChange)
    → IsStarted options m
    → SeqPrefixRun fault options.steps rest options.watch m new d out notes → d.old.left ≡ w.input
    → AttemptPrefixes (on options m.image) w out notes
AttemptPrefixes-cut_run options m w fault d out notes at cut told =
    let b = cut_begins options fault m d out notes at cut w.input told in
    record {
      answer = answer_shown w.input b.shown;
      kept = inl refl;
      is = (continues (answer_shown w.input b.shown), (b.shown, b.may, refl), refl);
      bytes = b.bytes;
      lines = b.lines;
    }
