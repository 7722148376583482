-- How the code's machine stands to programs and states.
use Rattle.std.specs.Prelude.{◌≡◌, ℕ, List, Option, Some}
use Rattle.alpha_table.specs.Class.{Class, barrier}
use Rattle.alpha_pal.specs.Kernel.{KernelState}
use Rattle.alpha_pal.specs.CallEffect.{kernel_after}
use Rattle.alpha_seq.specs.declared.machine.Machine.{Machine}
use Rattle.alpha_seq.specs.State.{Program, State}
use Rattle.alpha_seq.specs.Step.{next_class}

abbrev pub program_of : Machine → Program
program_of m = record { image = m.image; completion = m.completion }

abbrev pub state_of : Machine → State
state_of m = record {
  regs = m.regs;
  pc = m.pc;
  mem = m.memory;
  unique = m.unique;
  lock = m.lock;
  count = m.overflows;
  logged = m.last;
}

-- the class of the word at the machine's PC
abbrev pub class_here : Machine → Option Class
class_here m = next_class (program_of m) m.pc

-- the kernel after a step: a PAL call alone is served by it
abbrev pub kernel_left : Option Class → ℕ → List ℕ → KernelState → KernelState
kernel_left (Some (barrier (Some function))) next regs k = kernel_after function next regs k
kernel_left _ next regs k = k

-- what no step and no run changes: the program, and the mode of the kernel between steps
pub record Stays (old new : Machine) : Type 0 where
  pub program : program_of new ≡ program_of old
  pub mode : new.kernel.user ≡ old.kernel.user
