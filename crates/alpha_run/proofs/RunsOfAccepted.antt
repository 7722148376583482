-- Runs of the imprecise machine that lose no trap, and those that show what the sequential run shows.
use Rattle.std.proofs.Common.{◌≡◌, ◌≢◌, ℕ, Bool, List, [], ◌++◌, length, Option, Some, None, Result, Ok, Err, IfOk}
use Rattle.std.proofs.Common.{IfErr, refl, sym, ap, subst, ◌∙◌}
use Rattle.alpha_io.specs.SinkChange.{SinkChange, Puts}
use Rattle.alpha_io.specs.Written.{WritesPrefix}
use Rattle.alpha_io.proofs.Writes.{WritesPrefix-all}
use Rattle.alpha_seq.specs.declared.end.End.{End}
use Rattle.alpha_seq.specs.declared.event.Event.{Event as SeenEvent}
use Rattle.alpha_pal.specs.declared.fault.Fault.{Fault}
use Rattle.alpha_seq.specs.State.{Went, Barriered, Overflowed, Ends}
use Rattle.alpha_seq.specs.Run.{Shown, sequential}
use Rattle.alpha_seq.specs.Machine.{program_of, state_of}
use Rattle.alpha_seq.specs.Devices.{Drawn}
use Rattle.alpha_imprecise.specs.StepResult.{Trap, ImpreciseEvent, Precisely, Triggered, Waited, Reported, Lost}
use Rattle.alpha_imprecise.specs.StepResult.{step_result}
use Rattle.alpha_imprecise.specs.Run.{RunsImprecisely}
use Rattle.alpha_imprecise.specs.ChosenRun.{ChosenRun, end_of_imprecise_event, lost_trap, chosen_run, shown_chosen_run}
use Rattle.alpha_imprecise.specs.Oracle.{Oracle}
use Rattle.alpha_imprecise.specs.ImpreciseState.{ImpreciseState, trap_in, begun_at, step_result_of, IsFresh}
use Rattle.alpha_imprecise.specs.Restart.{IsRestartable, NeverLoses}
use Rattle.alpha_imprecise.specs.Shown.{ShowsSame}
use Rattle.alpha_imprecise.proofs.FreshRuns.{begun_fresh}
use Rattle.alpha_imprecise.proofs.ShownRuns.{runs_alike}
use Rattle.alpha_imprecise.proofs.DrawnRuns.{chosen_run_with}
use Rattle.alpha_run.specs.ImpreciseRan.{ended_as, ImpreciseRanAs, ImprecisePrefixRun}
use Rattle.alpha_run.specs.SeqRun.{ended_by}
use Rattle.alpha_run.specs.Shows.{LosesNone, Shows, ShowsSequential}
use Rattle.alpha_run.proofs.ImpreciseShown.{WholeRun, whole_run-ImpreciseRanAs, told_from, cut_from}

-- ---- no trap is lost

none_lost : (h : ImpreciseEvent) → ((pc mask : ℕ) → h ≢ Lost pc mask) → LosesNone (ended_as h)
none_lost (Precisely Went) never = tt
none_lost (Precisely (Barriered traffic pc regs)) never = tt
none_lost (Precisely (Overflowed at)) never = tt
none_lost (Precisely (Ends end)) never = tt
none_lost (Triggered value) never = tt
none_lost (Waited adds value bytes) never = tt
none_lost (Reported at) never = tt
none_lost (Lost pc mask) never = absurd (never pc mask refl)

pub loses_none : (last : Option SeenEvent) (n left : ℕ) (watch : Bool) (old new : ImpreciseState)
    (before after : Oracle)
    (input : Drawn) (out notes : SinkChange)
    → WholeRun last n left watch old new before after input out notes → old.pending ≡ None
    → NeverLoses old.machine.image
    → LosesNone last
loses_none last n left watch old new before after input out notes w calm never =
    let run = subst (λ (p : Option Trap). RunsImprecisely (program_of old.machine)
    (step_result (state_of old.machine) p (Precisely Went)) w.ran.steps (step_result_of new w.last_event))
    (ap trap_in calm) w.ran.runs in
    subst LosesNone (sym w.last_is) (none_lost w.last_event (λ pc mask.
    never old.machine.completion (state_of old.machine) w.ran.steps (step_result_of new w.last_event) pc mask run))

pub LosesNone-shows_of_accepted : (r : Result (Option SeenEvent) Fault) (n left : ℕ) (watch : Bool)
    (old new : ImpreciseState)
    (before after : Oracle) (input : Drawn) (out notes : SinkChange)
    → IfOk r (λ last. ImpreciseRanAs last n left watch old new before after input out notes) → old.pending ≡ None
    → NeverLoses old.machine.image → IfOk r LosesNone
LosesNone-shows_of_accepted (Ok last) n left watch old new before after input out notes did calm never =
    loses_none last n left watch old new before after input out notes
    (whole_run-ImpreciseRanAs last n left watch old new before after input out notes did) calm never
LosesNone-shows_of_accepted (Err fault) n left watch old new before after input out notes did calm never = tt

-- ---- the sequential run

same_shown : (n : ℕ) (watch : Bool) (old : ImpreciseState) (bytes words : List ℕ) → IsFresh old
    → IsRestartable old.machine.image
    → ShowsSame (sequential (program_of old.machine) bytes n watch)
    (shown_chosen_run watch (chosen_run (program_of old.machine) (begun_at old bytes words) n))
same_shown n watch old bytes words fresh restarts =
    subst (λ (k : ChosenRun). ShowsSame (sequential (program_of old.machine) bytes n watch)
    (shown_chosen_run watch (chosen_run (program_of old.machine) k n)))
    (sym (begun_fresh old bytes words fresh))
    (runs_alike old.machine.image restarts old.machine.completion bytes words n watch)

same_answer : (h : ImpreciseEvent) → lost_trap h ≡ None → ended_as h ≡ ended_by (end_of_imprecise_event h)
same_answer (Precisely Went) none = refl
same_answer (Precisely (Barriered traffic pc regs)) none = refl
same_answer (Precisely (Overflowed at)) none = refl
same_answer (Precisely (Ends end)) none = refl
same_answer (Triggered value) none = refl
same_answer (Waited adds value bytes) none = refl
same_answer (Reported at) none = refl
same_answer (Lost pc mask) none = absurd cc

none_ended : (s : Shown) (last : Option SeenEvent) → last ≡ ended_by s.end → LosesNone last
none_ended s last is = subst LosesNone (sym is) (by s.end)
  where
    by : (o : Option End) → LosesNone (ended_by o)
    by None = tt
    by (Some end) = tt

Shows-sequential : (last : Option SeenEvent) (n left : ℕ) (watch : Bool) (old new : ImpreciseState)
    (before after : Oracle)
    (input : Drawn) (out notes : SinkChange)
    → WholeRun last n left watch old new before after input out notes → (bytes : List ℕ) → input.old.left ≡ Some bytes
    → IsFresh old → IsRestartable old.machine.image
    → Shows (sequential (program_of old.machine) bytes n watch) last input out notes
Shows-sequential last n left watch old new before after input out notes w bytes tells fresh restarts =
    let ran = w.ran in
    let s = sequential (program_of old.machine) bytes n watch in
    let fed = ran.fed.told bytes tells in
    let there = told_from last n left watch old new before after input out notes w bytes [] fed.0 fed.1 in
    let same : ShowsSame s (shown_chosen_run watch
    (chosen_run_with (step_result_of new w.last_event) ran.steps fed.0 w.count there.0 [] (length ran.words))) =
    subst (λ (k : ChosenRun). ShowsSame s (shown_chosen_run watch k)) there.1
    (same_shown n watch old bytes (ran.words ++ []) fresh restarts) in
    record {
      answer_is = w.last_is ∙ (same_answer w.last_event same.lost ∙ ap ended_by same.end);
      bytes = subst (Puts out) same.output ran.wrote;
      left = fed.2 ∙ ap Some same.left;
      lines = subst (Puts notes) same.notes ran.noted;
    }

pub ImpreciseRanAs-restarts : (r : Result (Option SeenEvent) Fault) (n left : ℕ) (watch : Bool)
    (old new : ImpreciseState)
    (before after : Oracle) (input : Drawn) (out notes : SinkChange)
    → IfOk r (λ last. ImpreciseRanAs last n left watch old new before after input out notes)
    → IfErr r (λ fault. ImprecisePrefixRun fault n left watch old new before after input out notes)
    → (bytes : List ℕ) → input.old.left ≡ Some bytes → IsFresh old → IsRestartable old.machine.image
    → ShowsSequential n watch bytes r old.machine input out notes
ImpreciseRanAs-restarts (Ok last) n left watch old new before after input out notes did cut bytes tells fresh restarts =
    let s = sequential (program_of old.machine) bytes n watch in
    let shown = Shows-sequential last n left watch old new before after input out notes
    (whole_run-ImpreciseRanAs last n left watch old new before after input out notes did) bytes tells fresh restarts in
    record {
      found = none_ended s last shown.answer_is;
      shows = shown;
      part = record {
        bytes = WritesPrefix-all out.old out.new s.output shown.bytes.written;
        lines = WritesPrefix-all notes.old notes.new s.notes shown.lines.written;
      };
    }
ImpreciseRanAs-restarts (Err fault) n left watch old new before after input out notes did cut bytes tells fresh
    restarts =
    let fronts = cut_from fault n watch old before after input out notes cut bytes [] tells in
    let same = same_shown n watch old bytes ((cut.words ++ cut.label.words) ++ []) fresh restarts in
    record {
      found = tt;
      shows = tt;
      part = record {
        bytes = subst (WritesPrefix out.old out.new) same.output fronts.0;
        lines = subst (WritesPrefix notes.old notes.new) same.notes fronts.1;
      };
    }
