-- What a step of a machine did, by its answer.
use Rattle.std.specs.Prelude.{◌≡◌, ℕ, List}
use Rattle.alpha_io.specs.SinkChange.{SinkChange, Puts}
use Rattle.alpha_io.specs.Written.{WritesPrefix}
use Rattle.alpha_pal.specs.declared.fault.Fault.{Fault}
use Rattle.alpha_pal.specs.declared.fault.Fault.TheVariants as faults
use Rattle.alpha_seq.specs.declared.machine.Machine.{Machine}
use Rattle.alpha_seq.specs.declared.event.Event.{Event}
use Rattle.alpha_seq.specs.Run.{output}
use Rattle.alpha_seq.specs.Devices.{Drawn, Feeds, WouldFeed, LeavesEnd, HasInputFault, HasOutputFault, HasNotesFault}
use Rattle.alpha_seq.specs.StepLabel.{StepLabel}

-- The step of the definition, with all that it puts. A machine says by `fast_step` what its step is, by `uses` how many
-- units it uses, by `core` where its registers, memory and PC are, and by `draws` which words a chooser went on by.
pub record StepEffect {M : Type 0} (steps_to : M → StepLabel → M → Type 0) (uses : M → ℕ) (core : M → Machine)
    (draws : List ℕ → Type 0)
    (event : Event) (old new : M) (input : Drawn) (out : SinkChange) : Type 0 where
  pub label : StepLabel
  pub is : steps_to old label new
  pub units : label.units ≡ uses old
  pub event_is : label.event ≡ event
  pub core_is : label.core ≡ core new
  pub drew : draws label.words
  pub fed : Feeds input label.seen
  pub same : input.now ≡ input.before
  pub wrote : Puts out (output label.seen)

-- which count of faults rose, by the device that failed
abbrev pub Causes : Fault → Drawn → SinkChange → SinkChange → Type 0
Causes faults.Input input out notes = HasInputFault input out notes
Causes faults.Output input out notes = HasOutputFault input out notes
Causes faults.Notes input out notes = HasNotesFault input out notes

-- The step of the definition that a device's fault cut short: it leads to a machine that isn't there, and of what it
-- puts a front was put. A machine says by `leaves` what is there in its place.
pub record FaultedStepEffect {M : Type 0} (steps_to : M → StepLabel → M → Type 0) (uses : M → ℕ) (core : M → Machine)
    (leaves : Fault → M → M → Drawn → SinkChange → Type 0) (draws : List ℕ → Type 0)
    (fault : Fault) (old new : M) (input : Drawn) (out : SinkChange) : Type 0 where
  pub intended : M
  pub label : StepLabel
  pub is : steps_to old label intended
  pub units : label.units ≡ uses old
  pub core_is : label.core ≡ core intended
  pub drew : draws label.words
  pub fed : WouldFeed input label.seen
  pub left : LeavesEnd input
  pub wrote : WritesPrefix out.old out.new (output label.seen)
  pub after_fault : leaves fault old new input out
  pub cause : (notes : SinkChange) → notes.now ≡ notes.before → Causes fault input out notes
