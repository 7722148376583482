-- What the execution of one word did, by its answer.
use Rattle.std.specs.Prelude.{◌≡◌, ◌≢◌, ℕ, ℤ, ◌+◌, ◌%◌, ◌^◌, ◌⊎◌, List, Option, Some, None}
use Rattle.std.specs.Int.{w32}
use Rattle.alpha_words.specs.Regs.{put}
use Rattle.alpha_table.specs.declared.rows.Extension.{Extension}
use Rattle.alpha_table.specs.declared.rows.Extension.TheVariants.{Zero, Sign}
use Rattle.alpha_table.specs.declared.rows.MemOp.{MemOp}
use Rattle.alpha_table.specs.declared.columns.MemAccess.{MemAccess}
use Rattle.alpha_table.specs.declared.form.Form.{Form}
use Rattle.alpha_table.specs.Class.{Class}
use Rattle.alpha_table.specs.Rows.{mem_row}
use Rattle.alpha_values.specs.Numbers.{signed, register_of}
use Rattle.alpha_mem.specs.declared.access.MemFault.{MemFault}
use Rattle.alpha_pal.specs.declared.pal_end.Passed.TheVariants.{Nothing}
use Rattle.alpha_pal.specs.Call.{Silent}
use Rattle.alpha_seq.specs.declared.end.End.{End}
use Rattle.alpha_seq.specs.declared.end.Next.{Next}
use Rattle.alpha_seq.specs.declared.end.Next.TheVariants as nexts
use Rattle.alpha_seq.specs.declared.event.Event.{Event as SeenEvent}
use Rattle.alpha_seq.specs.declared.event.Event.TheVariants as events
use Rattle.alpha_seq.specs.declared.machine.Machine.{Machine}
use Rattle.alpha_seq.specs.State.{Event, Went, Barriered, Overflowed, Ends, stepped}
use Rattle.alpha_seq.specs.Step.{next_pc, fault_end, accessed, step}
use Rattle.alpha_seq.specs.Machine.{program_of, state_of, class_here, kernel_left}

-- The step of the definition at a word of this class, whatever there is to be read.
pub record ExecutesWord (event : Event) (class : Class) (old new : Machine) : Type 0 where
  pub is : (input : List ℕ) → step (program_of old) (Some class) (state_of old) input ≡ stepped (state_of new) event
  pub program : program_of new ≡ program_of old
  pub kernel : new.kernel ≡ kernel_left (Some class) (next_pc (state_of old)) old.regs old.kernel

-- what a load makes of a number; the longwords alone are extended with the sign
abbrev pub filled : Extension → ℕ → ℕ
filled Zero n = n
filled Sign n = register_of (signed w32 n)

-- what the execution of a word that is no PAL call did, by its answer
abbrev pub ExecuteEffect : SeenEvent → Class → Machine → Machine → Type 0
ExecuteEffect events.Went class old new = ExecutesWord Went class old new
ExecuteEffect (events.Barrier passed) class old new =
    (passed ≡ Nothing) × ExecutesWord (Barriered Silent new.pc new.regs) class old new
ExecuteEffect (events.Overflowed at) class old new = ExecutesWord (Overflowed at) class old new
ExecuteEffect (events.Triggered value) class old new = ⊥
ExecuteEffect (events.Waited wait) class old new = ⊥
ExecuteEffect (events.Reported at) class old new = ⊥
ExecuteEffect (events.Ended end) class old new = ExecutesWord (Ends end) class old new
ExecuteEffect (events.Lost pc mask) class old new = ⊥

-- an access of a word that faults ends the program, and all is as before
abbrev pub FaultEffect : MemFault → Class → MemAccess → Machine → Machine → Type 0
FaultEffect fault class at old new =
    (new ≡ old) × ExecutesWord (Ends (fault_end fault old.pc (accessed at (state_of old)))) class old new

-- The step of the definition only went on, whatever there is to be read.
pub record Retires (old new : Machine) : Type 0 where
  pub class : Class
  pub here : class_here old ≡ Some class
  pub does : ExecutesWord Went class old new

-- the machine after an overflow that is completed
abbrev pub logged_machine : Machine → ℕ → ℕ → Machine
logged_machine m rc value = record m {
  regs = put m.regs rc value;
  pc = (m.pc + 4) % 2 ^ 64;
  lock = None;
  overflows = (m.overflows + 1) % 2 ^ 64;
  last = m.pc;
}

-- the sizes of accesses
abbrev pub IsSized : ℕ → Type 0
IsSized bytes = (bytes ≡ 1) ⊎ ((bytes ≡ 2) ⊎ ((bytes ≡ 4) ⊎ (bytes ≡ 8)))

-- what an instruction would do whose access may fault, and end the program so
abbrev pub fault_answer : Option End → Form → Next
fault_answer None i = nexts.Plain i
fault_answer (Some end) i = nexts.Faults end

-- the access of a memory instruction
abbrev pub row_access : MemOp → ℕ → ℤ → MemAccess
row_access op rb disp = record { base = rb; disp = disp; bytes = (mem_row op).bytes; clears = (mem_row op).clears }
