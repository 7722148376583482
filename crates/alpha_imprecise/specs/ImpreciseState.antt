-- How the code's machine stands to the definition.
use Rattle.std.specs.Prelude.{◌≡◌, ℕ, Bool, true, if◌then◌else◌, List, Option, None, Some}
use Rattle.std.specs.Option.{option_map, option_map_or}
use Rattle.alpha_words.specs.Regs.{reg}
use Rattle.alpha_pal.specs.Kernel.{KernelState, arith_frame}
use Rattle.alpha_table.specs.Class.{Class}
use Rattle.alpha_image.specs.Parts.{place_of}
use Rattle.alpha_seq.specs.declared.machine.Machine.{Machine}
use Rattle.alpha_seq.specs.State.{State}
use Rattle.alpha_seq.specs.Step.{next_pc}
use Rattle.alpha_seq.specs.Start.{start}
use Rattle.alpha_seq.specs.Machine.{program_of, state_of, class_here, kernel_left}
use Rattle.alpha_imprecise.specs.declared.pending.Pending.{Pending}
use Rattle.alpha_imprecise.specs.StepResult.{Trap, Choice, with_register, ImpreciseEvent, Waited, StepResult}
use Rattle.alpha_imprecise.specs.StepResult.{step_result}
use Rattle.alpha_imprecise.specs.Step.{triggers, trap_destination, can_wait, unpredictable_state}
use Rattle.alpha_imprecise.specs.ChosenRun.{ChosenRun, begun}

-- the machine, and the trap that is pending
pub record ImpreciseState : Type 0 where
  pub machine : Machine
  pub pending : Option Pending

abbrev pub imprecise_state : Machine → Option Pending → ImpreciseState
imprecise_state machine pending = record { machine = machine; pending = pending }

abbrev pub trap_of : Pending → Trap
trap_of p = record { place = p.trigger; mask = p.mask }

abbrev pub trap_in : Option Pending → Option Trap
trap_in pending = option_map trap_of pending

abbrev pub waited_in : Option Pending → ℕ
waited_in pending = option_map_or (λ p. p.waited) pending 0

-- the machine's moment behind a step that went so
abbrev pub step_result_of : ImpreciseState → ImpreciseEvent → StepResult
step_result_of w h = step_result (state_of w.machine) (trap_in w.pending) h

-- no step was made from this moment of the machine, over this input, with these words to come
abbrev pub begun_at : ImpreciseState → List ℕ → List ℕ → ChosenRun
begun_at w input words = begun (state_of w.machine) input (trap_in w.pending) (waited_in w.pending) words

-- nothing is pending, and the machine is in the state at the start
pub record IsFresh (w : ImpreciseState) : Type 0 where
  pub nothing_pending : w.pending ≡ None
  pub start : state_of w.machine ≡ start (program_of w.machine)

-- the word at the PC is at this place, and overflows into this register
pub record OverflowsAt (m : Machine) (place rc : ℕ) : Type 0 where
  pub at : place_of m.image m.pc ≡ Some place
  pub overflows : triggers (class_here m) (state_of m) ≡ true
  pub into : trap_destination (class_here m) ≡ rc

-- the word at the PC is of this class, and can be executed while a trap waits
pub record WaitsAt (m : Machine) (class : Class) : Type 0 where
  pub here : class_here m ≡ Some class
  pub waits : can_wait (Some class) (state_of m) ≡ true

-- the mask after a word of this class that was executed: one that may trap adds its destination, if the machine chooses
-- so
abbrev pub mask_after : Option Class → ℕ → Bool → ℕ
mask_after o mask adds = if adds then with_register mask (trap_destination o) else mask

-- A word of this class was executed while a trap waits, by one value for its destination and its bytes.
pub record ExecutesUnpredictable (class : Class) (value : ℕ) (old new : Machine) : Type 0 where
  pub is : (c : Choice) → c.value ≡ value → c.bytes ≡ value
      → unpredictable_state (Some class) (state_of old) c ≡ state_of new
  pub program : program_of new ≡ program_of old
  pub kernel : new.kernel ≡ old.kernel

-- the kernel after a report: in user mode, and its frame that of a trap at the PC with the registers as they are now
abbrev pub returned_kernel : ℕ → List ℕ → KernelState
returned_kernel pc regs = record { user = true; frame = arith_frame pc regs; user_stack = reg regs 30 }

-- The kernel after a step. With nothing pending it is as after a precise step. A word that is executed while a trap is
-- pending leaves it, and a report leaves it in user mode with the frame of a trap at the PC and the registers as they
-- are then.
abbrev pub kernel_by : Option Trap → Option Class → State → State → ImpreciseEvent → KernelState → KernelState
kernel_by None class old new h kernel = kernel_left class (next_pc old) old.regs kernel
kernel_by (Some t) class old new (Waited adds value bytes) kernel = kernel
kernel_by (Some t) class old new _ kernel = returned_kernel new.pc new.regs
