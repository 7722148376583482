-- What a run of the sequential machine did, as a run of the definition.
use Rattle.std.specs.Prelude.{◌≡◌, ◌<◌, ◌+◌, ℕ, Bool, false, List, [], ◌∷◌, ◌++◌, length, Option, Some, None}
use Rattle.std.specs.Io.KnownBytes.{Appends}
use Rattle.alpha_io.specs.Supply.{Supply}
use Rattle.alpha_io.specs.SinkChange.{SinkChange, Puts}
use Rattle.alpha_pal.specs.Kernel.{KernelState}
use Rattle.alpha_pal.specs.declared.fault.Fault.{Fault}
use Rattle.alpha_seq.specs.declared.machine.Machine.{Machine}
use Rattle.alpha_seq.specs.declared.end.End.{End}
use Rattle.alpha_seq.specs.declared.event.Event.{Event as SeenEvent}
use Rattle.alpha_seq.specs.declared.event.Event.TheVariants as events
use Rattle.alpha_seq.specs.State.{Program, Event, Stepped}
use Rattle.alpha_seq.specs.Step.{next_pc, next_class}
use Rattle.alpha_seq.specs.Run.{is_over, end_of, output, notes, begins, next, Runs}
use Rattle.alpha_seq.specs.Machine.{program_of, state_of, kernel_left}
use Rattle.alpha_seq.specs.Devices.{Drawn, LeavesEnd, Feeds, WouldFeed, WritesBetween, drawn_from, sunk_from}
use Rattle.alpha_seq.specs.StepLabel.{StepLabel}
use Rattle.alpha_seq.specs.StepEffect.{Causes}
use Rattle.alpha_seq.specs.Sequential.{SeqStep, SeqStateAfterFault}
use Rattle.alpha_run.specs.RunEffect.{drawn_to, StateAfterFault}

-- the kernel behind steps with these events
abbrev pub kernel_over : Program → Stepped → List Event → KernelState → KernelState
kernel_over g a [] k = k
kernel_over g a (event ∷ events) k =
    kernel_over g (next g a event) events (kernel_left (next_class g a.state.pc) (next_pc a.state) a.state.regs k)

-- the answer of a run by how the program ended, if it has
abbrev pub ended_by : Option End → Option SeenEvent
ended_by None = None
ended_by (Some end) = Some (events.Ended end)

-- The run of so many steps, or to the program's end; it leaves the steps that it didn't make. Where the input is told
-- it is what these steps read, and what is left.
pub record SeqRan (last : Option SeenEvent) (units left : ℕ) (watch : Bool) (old new : Machine) (input : Drawn)
    (out sink : SinkChange) : Type 0 where
  pub events : List Event
  pub at : Stepped
  pub runs : Runs (program_of old) (begins (state_of old)) events at
  pub stands : state_of new ≡ at.state
  pub kernel : new.kernel ≡ kernel_over (program_of old) (begins (state_of old)) events old.kernel
  pub program : program_of new ≡ program_of old
  pub used : length events + left ≡ units
  pub full : last ≡ None → length events ≡ units
  pub end : last ≡ ended_by (end_of at.event)
  pub same : input.now ≡ input.before
  pub wrote : Puts out (output events)
  pub noted : Puts sink (notes watch events)
  pub fed : Feeds input events

-- A run that a device's fault cut short within a step: fewer steps were made, this is left of the units behind that
-- one, and the output and the notes have all that they show, and of the next step a front. What is there of the machine
-- behind that step is said from where it began: this was left of the input then, and this was written to the output and
-- to the notes.
pub record SeqPrefixRun (fault : Fault) (units rest : ℕ) (watch : Bool) (old new : Machine) (input : Drawn)
    (out sink : SinkChange) : Type 0 where
  pub events : List Event
  pub at : Stepped
  pub runs : Runs (program_of old) (begins (state_of old)) events at
  pub going : is_over at.event ≡ false
  pub less : length events < units
  pub used : length events + 1 + rest ≡ units
  pub mid : Machine
  pub stands : state_of mid ≡ at.state
  pub kernel : mid.kernel ≡ kernel_over (program_of old) (begins (state_of old)) events old.kernel
  pub program : program_of mid ≡ program_of old
  pub label : StepLabel
  pub intended : Machine
  pub step : SeqStep mid label intended
  pub left : Supply
  pub fed : Feeds (drawn_to input left) events
  pub would_feed : WouldFeed (drawn_from input left input.before) label.seen
  pub leaves_end : LeavesEnd (drawn_from input left input.before)
  pub written : Option (List ℕ)
  pub wrote : Appends out.old written (output events)
  pub marked : Option (List ℕ)
  pub marks : Appends sink.old marked (notes watch events)
  pub bytes : WritesBetween out.old out.new (output events) (output (events ++ label.seen))
  pub lines : WritesBetween sink.old sink.new (notes watch events) (notes watch (events ++ label.seen))
  pub after_fault : StateAfterFault SeqStateAfterFault fault label mid intended new (drawn_from input left input.before)
      (sunk_from out written out.before) (sunk_from sink marked sink.before)
  pub cause : Causes fault input out sink
