-- What the machine's step did, by its answer.
use Rattle.std.specs.Prelude.{◌≡◌, ⊤, ℕ, suc, ◌-◌, false, List, [], ◌++◌, length, Option, None, Some}
use Rattle.alpha_io.specs.SinkChange.{SinkChange}
use Rattle.alpha_pal.specs.declared.pal_end.Passed.{Passed}
use Rattle.alpha_pal.specs.declared.pal_end.Passed.TheVariants.{Nothing}
use Rattle.alpha_pal.specs.Call.{Silent}
use Rattle.alpha_seq.specs.declared.machine.Machine.{Machine}
use Rattle.alpha_seq.specs.declared.event.Event.{Event as SeenEvent}
use Rattle.alpha_seq.specs.declared.event.Event.TheVariants as events
use Rattle.alpha_pal.specs.declared.fault.Fault.{Fault}
use Rattle.alpha_seq.specs.State.{Went}
use Rattle.alpha_seq.specs.Machine.{program_of, state_of, class_here}
use Rattle.alpha_seq.specs.Run.{traffic_of, taken, output}
use Rattle.alpha_seq.specs.Devices.{Drawn}
use Rattle.alpha_seq.specs.StepLabel.{StepLabel, HasPassed}
use Rattle.alpha_seq.specs.StepEffect.{StepEffect, FaultedStepEffect}
use Rattle.alpha_seq.specs.Sequential.{seen_as, SeqStateAfterFault, no_words}
use Rattle.alpha_imprecise.specs.declared.pending.Pending.{Pending}
use Rattle.alpha_imprecise.specs.StepResult.{Choice, ImpreciseEvent, Precisely, Triggered, Waited, Reported, Lost}
use Rattle.alpha_imprecise.specs.Step.{triggers, imprecise_step}
use Rattle.alpha_imprecise.specs.Run.{seen_of, given_to, unit_of}
use Rattle.alpha_imprecise.specs.Chosen.{most_waited, reporting, draw, waited_after}
use Rattle.alpha_imprecise.specs.Oracle.{Oracle, OracleDraws}
use Rattle.alpha_imprecise.specs.ImpreciseState.{ImpreciseState, trap_in, waited_in, step_result_of, kernel_by}
use Rattle.alpha_imprecise.specs.ChoiceSource.{Pick, Picked, asked}

-- How a step went, as its answer says it.
abbrev pub shown_as : Passed → ImpreciseEvent → SeenEvent
shown_as passed (Precisely event) = seen_as event passed
shown_as passed (Triggered value) = events.Triggered value
shown_as passed (Waited adds value bytes) = events.Waited (record { adds = adds; value = value })
shown_as passed (Reported at) = events.Reported at
shown_as passed (Lost pc mask) = events.Lost pc mask

-- the kernel after a step from one state to another
abbrev pub IsKernelBy : ImpreciseEvent → ImpreciseState → ImpreciseState → Type 0
IsKernelBy last_event old new = new.machine.kernel
    ≡ kernel_by (trap_in old.pending) (class_here old.machine) (state_of old.machine)
    (state_of new.machine) last_event old.machine.kernel

-- the step of the definition by this choice, where what it was given is there to be read
pub record ImpreciseStepBy (choice : Choice) (old : ImpreciseState) (p : StepLabel)
    (new : ImpreciseState) : Type 0 where
  pub last_event : ImpreciseEvent
  pub passed : Passed
  pub seen : p.seen ≡ seen_of last_event
  pub event : p.event ≡ shown_as passed last_event
  pub units : p.units ≡ unit_of (trap_in old.pending)
  pub core : p.core ≡ new.machine
  pub is : imprecise_step (program_of old.machine) (state_of old.machine)
      (trap_in old.pending) choice (given_to last_event)
      ≡ step_result_of new last_event
  pub passes : HasPassed p.event p.core.memory (taken p.seen) (output p.seen)
  pub waited : waited_in new.pending ≡ waited_after last_event (waited_in old.pending)
  pub kernel : IsKernelBy last_event old new
  pub program : program_of new.machine ≡ program_of old.machine

-- The same, where words choose it, whatever comes behind them: they are as many as the step draws.
pub record ImpreciseStep (old : ImpreciseState) (p : StepLabel) (new : ImpreciseState) : Type 0 where
  pub choice : Choice
  pub step : ImpreciseStepBy choice old p new
  pub draws : (coming : List ℕ)
      → draw (program_of old.machine) (state_of old.machine) (trap_in old.pending) (waited_in old.pending)
      (p.words ++ coming)
      ≡ record { choice = choice; count = length p.words }

-- the units that the next step uses, how many steps without one may follow, and the registers, memory and PC
abbrev pub imprecise_units : ImpreciseState → ℕ
imprecise_units w = unit_of (trap_in w.pending)

abbrev pub wait_left : Option Pending → ℕ
wait_left None = 0
wait_left (Some p) = suc (most_waited - p.waited)

abbrev pub waits_left : ImpreciseState → ℕ
waits_left w = wait_left w.pending

abbrev pub imprecise_core : ImpreciseState → Machine
imprecise_core w = w.machine

-- What a device that failed leaves of the machine: nothing is pending, as nothing was, and the rest is what the
-- sequential machine's step leaves.
pub record ImpreciseStateAfterFault (fault : Fault) (old new : ImpreciseState) (input : Drawn)
    (out : SinkChange) : Type 0 where
  pub nothing_pending : old.pending ≡ None
  pub still : new.pending ≡ None
  pub machine : SeqStateAfterFault fault old.machine new.machine input out

-- what a step did, by the words that the chooser went on by
abbrev pub ImpreciseStepMade : SeenEvent → ImpreciseState → ImpreciseState → Oracle → Oracle → Drawn → SinkChange
    → Type 0
ImpreciseStepMade event old new before after input out =
    StepEffect ImpreciseStep imprecise_units imprecise_core (OracleDraws before after) event old new input out

-- one that a device's fault cut short
abbrev pub ImpreciseStepFaulted : Fault → ImpreciseState → ImpreciseState → Oracle → Oracle → Drawn → SinkChange
    → Type 0
ImpreciseStepFaulted fault old new before after input out =
    FaultedStepEffect ImpreciseStep imprecise_units imprecise_core ImpreciseStateAfterFault
    (OracleDraws before after) fault old new input out

-- ---- by who chooses

-- what was done by a choice, with what was asked of who chooses
pub record Chose {P : Type 0} (gives_pick : P → Pick → P → Type 0) (values : P → ℕ → P → Type 0) (old : ImpreciseState)
    (before after : P)
    (does : Choice → Type 0) : Type 0 where
  pub choice : Choice
  pub effect : does choice
  pub picked : Picked gives_pick values (asked old) choice before after

-- what a step did, by the choice that was made
abbrev pub StepMadeByChoice : {P : Type 0} → (P → Pick → P → Type 0) → (P → ℕ → P → Type 0) → SeenEvent → ImpreciseState
    → ImpreciseState → P → P → Drawn → SinkChange → Type 0
StepMadeByChoice gives_pick values event old new before after input out =
    Chose gives_pick values old before after
    (λ choice. StepEffect (ImpreciseStepBy choice) imprecise_units imprecise_core no_words event old new input out)

-- one that a device's fault cut short
abbrev pub StepFaultedByChoice : {P : Type 0} → (P → Pick → P → Type 0) → (P → ℕ → P → Type 0) → Fault → ImpreciseState
    → ImpreciseState → P → P → Drawn → SinkChange → Type 0
StepFaultedByChoice gives_pick values fault old new before after input out =
    Chose gives_pick values old before after
    (λ choice. FaultedStepEffect (ImpreciseStepBy choice) imprecise_units imprecise_core ImpreciseStateAfterFault
    no_words fault old new input out)

-- ---- steps that leave the input and the output alone

-- nothing passes in a step that went so
abbrev pub IsStill : ImpreciseEvent → Type 0
IsStill (Precisely event) = traffic_of event ≡ Silent
IsStill last_event = ⊤

-- the step by this choice
pub record StepsBy (last_event : ImpreciseEvent) (choice : Choice) (old new : ImpreciseState) : Type 0 where
  pub is : imprecise_step (program_of old.machine) (state_of old.machine) (trap_in old.pending) choice []
      ≡ step_result_of new last_event
  pub waited : waited_in new.pending ≡ waited_after last_event (waited_in old.pending)
  pub kernel : IsKernelBy last_event old new
  pub program : program_of new.machine ≡ program_of old.machine

-- such a step, with its answer; nothing passed in it
pub record StepsAs (event : SeenEvent) (old new : ImpreciseState) (choice : Choice) : Type 0 where
  pub last_event : ImpreciseEvent
  pub event_is : event ≡ shown_as Nothing last_event
  pub still : IsStill last_event
  pub steps : StepsBy last_event choice old new

-- ---- a step that only goes on

-- With nothing pending, at a word that doesn't overflow, the step only went on.
pub record ImpreciseRetires (old new : ImpreciseState) : Type 0 where
  pub nothing_pending : old.pending ≡ None
  pub exact : triggers (class_here old.machine) (state_of old.machine) ≡ false
  pub step : StepsBy (Precisely Went) (reporting 0).choice old new
