-- The step of the sequential machine, as one of a run.
use Rattle.std.specs.Prelude.{◌≡◌, ℕ, List, [], ◌∷◌, Some}
use Rattle.alpha_words.specs.declared.PalCall.TheVariants.{Callsys}
use Rattle.alpha_io.specs.SinkChange.{SinkChange}
use Rattle.alpha_table.specs.Class.{barrier}
use Rattle.alpha_pal.specs.declared.fault.Fault.{Fault}
use Rattle.alpha_pal.specs.declared.fault.Fault.TheVariants as faults
use Rattle.alpha_pal.specs.declared.pal_end.Passed.{Passed}
use Rattle.alpha_pal.specs.CallEffect.{TakesPart, PutsPart}
use Rattle.alpha_pal.specs.Serve.{system_call_of}
use Rattle.alpha_seq.specs.declared.machine.Machine.{Machine}
use Rattle.alpha_seq.specs.declared.event.Event.{Event as SeenEvent}
use Rattle.alpha_seq.specs.declared.event.Event.TheVariants as events
use Rattle.alpha_seq.specs.State.{Event, Went, Barriered, Overflowed, Ends, stepped}
use Rattle.alpha_seq.specs.Step.{next_pc, step_from}
use Rattle.alpha_seq.specs.Run.{given, taken, output}
use Rattle.alpha_seq.specs.Machine.{program_of, state_of, class_here, kernel_left}
use Rattle.alpha_seq.specs.Devices.{Drawn, Rests, Idles}
use Rattle.alpha_seq.specs.StepLabel.{StepLabel, HasPassed}
use Rattle.alpha_seq.specs.StepEffect.{StepEffect, FaultedStepEffect}

-- how the code says what a step of the definition came to, a barrier with what it took or put
abbrev pub seen_as : Event → Passed → SeenEvent
seen_as Went passed = events.Went
seen_as (Barriered traffic pc regs) passed = events.Barrier passed
seen_as (Overflowed at) passed = events.Overflowed at
seen_as (Ends end) passed = events.Ended end

-- the step of the definition, where what its event was given is there to be read
pub record SeqStep (old : Machine) (p : StepLabel) (new : Machine) : Type 0 where
  pub last_event : Event
  pub passed : Passed
  pub seen : p.seen ≡ last_event ∷ []
  pub event : p.event ≡ seen_as last_event passed
  pub units : p.units ≡ 1
  pub words : p.words ≡ []
  pub core : p.core ≡ new
  pub is : step_from (program_of old) (state_of old) (given last_event) ≡ stepped (state_of new) last_event
  pub passes : HasPassed p.event p.core.memory (taken p.seen) (output p.seen)
  pub kernel : new.kernel ≡ kernel_left (class_here old) (next_pc (state_of old)) old.regs old.kernel
  pub program : program_of new ≡ program_of old

-- each step is a unit, and none without one follows; no word is drawn
abbrev pub one_unit : Machine → ℕ
one_unit m = 1

abbrev pub no_wait : Machine → ℕ
no_wait m = 0

abbrev pub itself : Machine → Machine
itself m = m

abbrev pub no_words : List ℕ → Type 0
no_words words = words ≡ []

-- what a step did
abbrev pub SeqStepEffect : SeenEvent → Machine → Machine → Drawn → SinkChange → Type 0
SeqStepEffect event old new input out = StepEffect SeqStep one_unit itself no_words event old new input out

-- ---- a step that a device's fault cut short

-- all is as before but for the kernel's frame: the call has entered the kernel
abbrev pub entered : Machine → Machine
entered m = record m { kernel = kernel_left (class_here m) (next_pc (state_of m)) m.regs m.kernel }

-- A read whose source failed: the bytes taken so far are in memory, and all else is as before but for the kernel's
-- frame.
pub record ReadsPart (old new : Machine) (input : Drawn) (out : SinkChange) : Type 0 where
  pub class : class_here old ≡ Some (barrier (Some Callsys))
  pub part : TakesPart (system_call_of old.regs) old.memory new.memory input.old input.new
  pub same : new ≡ record (entered old) { memory = new.memory }
  pub idle : Idles out

-- A write whose sink failed: a prefix of its bytes was put, and all is as before but for the kernel's frame, so that
-- the step can be made anew.
pub record WritesPart (old new : Machine) (input : Drawn) (out : SinkChange) : Type 0 where
  pub class : class_here old ≡ Some (barrier (Some Callsys))
  pub part : PutsPart (system_call_of old.regs) old.memory out.old out.new
  pub same : new ≡ entered old
  pub rests : Rests input

-- what the device that failed leaves of the machine; a step writes no notes
abbrev pub SeqStateAfterFault : Fault → Machine → Machine → Drawn → SinkChange → Type 0
SeqStateAfterFault faults.Input old new input out = ReadsPart old new input out
SeqStateAfterFault faults.Output old new input out = WritesPart old new input out
SeqStateAfterFault faults.Notes old new input out = ⊥

-- what was made of the step
abbrev pub FaultedSeqStep : Fault → Machine → Machine → Drawn → SinkChange → Type 0
FaultedSeqStep fault old new input out =
    FaultedStepEffect SeqStep one_unit itself SeqStateAfterFault no_words fault old new input out
