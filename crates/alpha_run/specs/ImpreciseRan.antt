-- What a run of the imprecise machine did, as a run of the definition.
use Rattle.std.specs.Prelude.{◌≡◌, ◌≤◌, ◌+◌, ℕ, Bool, true, false, List, [], ◌∷◌, ◌++◌, Option, Some, None}
use Rattle.std.specs.Io.KnownBytes.{Appends}
use Rattle.alpha_io.specs.Supply.{Supply}
use Rattle.alpha_io.specs.SinkChange.{SinkChange, Puts}
use Rattle.alpha_pal.specs.Kernel.{KernelState}
use Rattle.alpha_pal.specs.declared.fault.Fault.{Fault}
use Rattle.alpha_seq.specs.declared.event.Event.{Event}
use Rattle.alpha_seq.specs.declared.event.Event.TheVariants as events
use Rattle.alpha_seq.specs.State.{Program, Went, Ends}
use Rattle.alpha_seq.specs.Step.{next_class}
use Rattle.alpha_seq.specs.Run.{output, notes}
use Rattle.alpha_seq.specs.Machine.{program_of}
use Rattle.alpha_seq.specs.Devices.{Drawn, LeavesEnd, Feeds, WouldFeed, WritesBetween, drawn_from, sunk_from}
use Rattle.alpha_seq.specs.StepLabel.{StepLabel}
use Rattle.alpha_seq.specs.StepEffect.{Causes}
use Rattle.alpha_imprecise.specs.StepResult.{ImpreciseEvent, Precisely, Lost, StepResult}
use Rattle.alpha_imprecise.specs.Run.{finished, seen, next_step_result, RunsImprecisely, unit_of, units}
use Rattle.alpha_imprecise.specs.Chosen.{waits_behind, Draws}
use Rattle.alpha_imprecise.specs.Oracle.{Oracle, OracleDraws}
use Rattle.alpha_imprecise.specs.ImpreciseState.{ImpreciseState, trap_in, waited_in, step_result_of, kernel_by}
use Rattle.alpha_imprecise.specs.ImpreciseStepEffect.{ImpreciseStep, ImpreciseStateAfterFault}
use Rattle.alpha_run.specs.RunEffect.{drawn_to, StateAfterFault}

-- no step was made yet
abbrev pub moment_at : ImpreciseState → StepResult
moment_at w = step_result_of w (Precisely Went)

-- the kernel behind steps that went so
abbrev pub kernel_after_imprecise : Program → StepResult → List ImpreciseEvent → KernelState → KernelState
kernel_after_imprecise g a [] k = k
kernel_after_imprecise g a (h ∷ hs) k =
    kernel_after_imprecise g (next_step_result g a h) hs
    (kernel_by a.pending (next_class g a.state.pc) a.state (next_step_result g a h).state h k)

-- The run of so many units by the words that the chooser went on by, whatever comes behind them. Where the input is
-- told it is what these steps read, and what is left.
pub record ImpreciseRan (last : ImpreciseEvent) (n : ℕ) (watch : Bool) (old new : ImpreciseState)
    (before after : Oracle) (input : Drawn) (out sink : SinkChange) : Type 0 where
  pub steps : List ImpreciseEvent
  pub words : List ℕ
  pub drew : OracleDraws before after words
  pub runs : RunsImprecisely (program_of old.machine) (moment_at old) steps (step_result_of new last)
  pub draws : (coming : List ℕ)
      → Draws (program_of old.machine) (moment_at old) (waited_in old.pending) (words ++ coming) steps coming
  pub waited : waited_in new.pending ≡ waits_behind steps (waited_in old.pending)
  pub used : units (program_of old.machine) (moment_at old) steps ≡ n
  pub kernel : new.machine.kernel
      ≡ kernel_after_imprecise (program_of old.machine) (moment_at old) steps old.machine.kernel
  pub program : program_of new.machine ≡ program_of old.machine
  pub same : input.now ≡ input.before
  pub wrote : Puts out (output (seen steps))
  pub noted : Puts sink (notes watch (seen steps))
  pub fed : Feeds input (seen steps)

-- the step behind which a run is over, none where it goes on
abbrev pub ended_as : ImpreciseEvent → Option Event
ended_as (Precisely (Ends end)) = Some (events.Ended end)
ended_as (Lost pc mask) = Some (events.Lost pc mask)
ended_as _ = None

-- the run of all its units, or to its last step, which leaves the units that it didn't use
abbrev pub ImpreciseRanAs : Option Event → ℕ → ℕ → Bool → ImpreciseState → ImpreciseState → Oracle → Oracle → Drawn
    → SinkChange → SinkChange → Type 0
ImpreciseRanAs None units left watch old new before after input out sink =
    (h : ImpreciseEvent) × (finished h ≡ false) × (new.pending ≡ None) × (left ≡ 0)
    × ImpreciseRan h units watch old new before after input out sink
ImpreciseRanAs (Some event) units left watch old new before after input out sink =
    (h : ImpreciseEvent) × (n : ℕ) × (n + left ≡ units) × (Some event ≡ ended_as h) × (finished h ≡ true)
    × ImpreciseRan h n watch old new before after input out sink

-- A run that a device's fault cut short within a step: it was made for fewer units or steps, this is left of the units
-- behind that one, and the output and the notes have all that it shows, and of the next step a front. What is there of
-- the machine behind that step is said from where it began: this was left of the input then, and this was written to
-- the output and to the notes.
pub record ImprecisePrefixRun (fault : Fault) (n rest : ℕ) (watch : Bool) (old new : ImpreciseState)
    (before after : Oracle) (input : Drawn) (out sink : SinkChange) : Type 0 where
  pub steps : List ImpreciseEvent
  pub words : List ℕ
  pub last : ImpreciseEvent
  pub mid : ImpreciseState
  pub runs : RunsImprecisely (program_of old.machine) (moment_at old) steps (step_result_of mid last)
  pub going : finished last ≡ false
  pub draws : (coming : List ℕ)
      → Draws (program_of old.machine) (moment_at old) (waited_in old.pending) (words ++ coming) steps coming
  pub waited : waited_in mid.pending ≡ waits_behind steps (waited_in old.pending)
  pub room : units (program_of old.machine) (moment_at old) steps + unit_of (trap_in mid.pending) ≤ n
  pub used : units (program_of old.machine) (moment_at old) steps + unit_of (trap_in mid.pending) + rest ≡ n
  pub kernel : mid.machine.kernel
      ≡ kernel_after_imprecise (program_of old.machine) (moment_at old) steps old.machine.kernel
  pub program : program_of mid.machine ≡ program_of old.machine
  pub label : StepLabel
  pub intended : ImpreciseState
  pub step : ImpreciseStep mid label intended
  pub drew : OracleDraws before after (words ++ label.words)
  pub left : Supply
  pub fed : Feeds (drawn_to input left) (seen steps)
  pub would_feed : WouldFeed (drawn_from input left input.before) label.seen
  pub leaves_end : LeavesEnd (drawn_from input left input.before)
  pub written : Option (List ℕ)
  pub wrote : Appends out.old written (output (seen steps))
  pub marked : Option (List ℕ)
  pub marks : Appends sink.old marked (notes watch (seen steps))
  pub bytes : WritesBetween out.old out.new (output (seen steps)) (output (seen steps ++ label.seen))
  pub lines : WritesBetween sink.old sink.new (notes watch (seen steps)) (notes watch (seen steps ++ label.seen))
  pub after_fault : StateAfterFault ImpreciseStateAfterFault fault label mid intended new
      (drawn_from input left input.before)
      (sunk_from out written out.before) (sunk_from sink marked sink.before)
  pub cause : Causes fault input out sink
