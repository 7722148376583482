-- The imprecise step: a trap may be reported late, and until then what the machine writes may be anything.
use Rattle.std.specs.Prelude.{ℕ, ◌+◌, ◌*◌, ◌/◌, ◌%◌, ◌^◌, ◌==◌, Bool, true, false, not, ◌||◌, ◌&&◌, if◌then◌else◌, List}
use Rattle.std.specs.Prelude.{Option, Some, None, is_none, unwrap_or}
use Rattle.std.specs.Option.{option_map_or}
use Rattle.alpha_words.specs.Digits.{low_bytes}
use Rattle.alpha_words.specs.Regs.{reg, put}
use Rattle.alpha_table.specs.declared.columns.MemAccess.{MemAccess}
use Rattle.alpha_table.specs.Class.{Class, operate, trigger, address, load, store, load_locked, store_conditional}
use Rattle.alpha_table.specs.Class.{branch, jump, barrier, idle}
use Rattle.alpha_table.specs.Code.{class_at, trap_rc}
use Rattle.alpha_values.specs.Source.{source_value}
use Rattle.alpha_values.specs.TrapOp.{overflow_of, stops}
use Rattle.alpha_mem.specs.Intent.{Intent, Load, Store}
use Rattle.alpha_mem.specs.Block.{Block, shapes}
use Rattle.alpha_mem.specs.Fault.{fault_of}
use Rattle.alpha_mem.specs.Memory.{write_bytes}
use Rattle.alpha_image.specs.Parts.{Parts, place_of}
use Rattle.alpha_seq.specs.declared.end.End.TheVariants as ends
use Rattle.alpha_seq.specs.State.{Program, State, Ends, Stepped}
use Rattle.alpha_seq.specs.Step.{onward, setting, accessed, lock_block, matches, branch_target, branched, next_class}
use Rattle.alpha_seq.specs.Step.{step}
use Rattle.alpha_trap.specs.Scan.{scan}
use Rattle.alpha_trap.specs.Completed.{completed_regs}
use Rattle.alpha_imprecise.specs.StepResult.{Trap, with_register, Choice, Precisely, Triggered, Waited, Reported, Lost}
use Rattle.alpha_imprecise.specs.StepResult.{StepResult, step_result}

-- ---- with nothing pending

-- whether the word overflows
abbrev pub triggers : Option Class → State → Bool
triggers (Some (trigger op ra src rc)) s = overflow_of op (reg s.regs ra) (source_value s.regs src)
triggers _ s = false

-- the destination of a word that may trap, R31 for any other word
abbrev pub trap_destination : Option Class → ℕ
trap_destination o = unwrap_or (trap_rc o) 31

-- whether a word may add to the mask of a pending trap: it may trap, and its destination is not R31
abbrev pub adds_here : Option Class → Bool
adds_here o = not (trap_destination o == 31)

-- an overflow: the destination gets any value, and the trap of the word at the PC is pending
abbrev pub triggered : Program → Option Class → State → Choice → StepResult
triggered g o s c =
    step_result (setting s (trap_destination o) c.value)
    (Some (record { place = unwrap_or (place_of g.image s.pc) 0; mask = with_register 0 (trap_destination o) }))
    (Triggered c.value)

-- a precise step
abbrev pub precisely : Stepped → StepResult
precisely t = step_result t.state None (Precisely t.event)

-- ---- a report

-- the address of a place
abbrev pub address_at : Parts → ℕ → ℕ
address_at image at = image.code_base + 4 * at

-- the state after a trap of the word at a place was completed: its destination has the completed value of its sources
-- as they are now, its address is logged, the lock flag is clear, and the program goes on behind it
abbrev pub completed : Program → State → ℕ → State
completed g s at = record s {
  regs = completed_regs g.completion (class_at g.image.words at) s.regs;
  pc = address_at g.image at + 4;
  lock = None;
  count = (s.count + 1) % 2 ^ 64;
  logged = address_at g.image at;
}

-- a trap of the word at a place is completed and logged, or stops the program at that word
abbrev pub landed : Program → State → ℕ → StepResult
landed g s at =
    if stops g.completion
    then step_result (record s { pc = address_at g.image at }) None
    (Precisely (Ends (ends.Overflow (address_at g.image at))))
    else step_result (completed g s at) None (Reported (address_at g.image at))

-- a report by the place that the scan finds; it finds none for a trap that is lost, and the state stays
abbrev pub report : Program → State → Trap → StepResult
report g s t = option_map_or (landed g s) (scan g.image s.pc t.mask) (step_result s (Some t) (Lost s.pc t.mask))

-- ---- a word that is executed while a trap is pending

-- whether an access at its actual address goes well
abbrev pub goes_well : Intent → MemAccess → State → Bool
goes_well intent at s = is_none (fault_of (shapes s.mem) intent (accessed at s) at.bytes)

-- whether the word can be executed while a trap waits: it is no barrier, and an access doesn't fault
abbrev pub can_wait : Option Class → State → Bool
can_wait None s = false
can_wait (Some (barrier call)) s = false
can_wait (Some (load extension at ra)) s = goes_well Load at s
can_wait (Some (store at ra)) s = goes_well Store at s
can_wait (Some (load_locked extension at ra)) s = goes_well Load at s
can_wait (Some (store_conditional at ra)) s = goes_well Store at s
can_wait o s = true

-- the memory after a store of any bytes
abbrev pub unpredictable_memory : MemAccess → State → Choice → List Block
unpredictable_memory at s c = write_bytes s.mem (accessed at s) (low_bytes at.bytes c.bytes)

-- a conditional store, by whether the lock flag has its number: its register gets any value, and the flag is clear
abbrev pub unpredictable_conditional : Bool → MemAccess → ℕ → State → Choice → State
unpredictable_conditional true at ra s c =
    record (setting s ra c.value) { mem = unpredictable_memory at s c; lock = None }
unpredictable_conditional false at ra s c = record (setting s ra c.value) { lock = None }

-- The state after the word: a destination gets any value, and so does the register that gets the next address; a store
-- puts any bytes at its actual address; a turn and the lock flag go as in a precise step.
abbrev pub unpredictable_state : Option Class → State → Choice → State
unpredictable_state (Some (operate op ra src rc)) s c = setting s rc c.value
unpredictable_state (Some (trigger op ra src rc)) s c = setting s rc c.value
unpredictable_state (Some (address op ra rb disp)) s c = setting s ra c.value
unpredictable_state (Some (load extension at ra)) s c = setting s ra c.value
unpredictable_state (Some (store at ra)) s c = record (onward s) { mem = unpredictable_memory at s c }
unpredictable_state (Some (load_locked extension at ra)) s c =
    record (setting s ra c.value) { lock = Some (lock_block at s) }
unpredictable_state (Some (store_conditional at ra)) s c =
    unpredictable_conditional (matches s.lock (lock_block at s)) at ra s c
unpredictable_state (Some (branch None ra disp)) s c =
    record s { regs = put s.regs ra c.value; pc = branch_target s disp }
unpredictable_state (Some (branch condition ra disp)) s c = branched condition ra disp s
unpredictable_state (Some (jump ra rb)) s c = record s { regs = put s.regs ra c.value; pc = reg s.regs rb / 4 * 4 }
unpredictable_state (Some idle) s c = onward s
unpredictable_state o s c = s

-- a word that may trap adds its destination to the mask, if the machine chooses so
abbrev pub waited : Option Class → State → Trap → Choice → StepResult
waited o s t c =
    step_result (unpredictable_state o s c)
    (Some (record t { mask = (if c.adds then with_register t.mask (trap_destination o) else t.mask) }))
    (Waited (c.adds && adds_here o) c.value c.bytes)

-- ---- the step

-- the step at a word of this class, where this is what there is to be read
abbrev pub imprecise_step_at : Program → Option Class → State → Option Trap → Choice → List ℕ → StepResult
imprecise_step_at g o s None c input = if triggers o s then triggered g o s c else precisely (step g o s input)
imprecise_step_at g o s (Some t) c input = if c.report || not (can_wait o s) then report g s t else waited o s t c

-- the step from a state
abbrev pub imprecise_step : Program → State → Option Trap → Choice → List ℕ → StepResult
imprecise_step g s pending c input = imprecise_step_at g (next_class g s.pc) s pending c input
