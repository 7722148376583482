-- What a step does: one equation a class of words.
use Rattle.std.specs.Prelude.{ℕ, ◌+◌, ◌*◌, ◌/◌, ◌%◌, ◌^◌, ℤ, pos, ◌+ℤ◌, ◌*ℤ◌, Bool, true, false, ◌==◌, if◌then◌else◌}
use Rattle.std.specs.Prelude.{List, Option, Some, None}
use Rattle.std.specs.Int.{w32}
use Rattle.std.specs.Option.{option_and_then, option_map_or}
use Rattle.alpha_words.specs.declared.Completion.{Completion}
use Rattle.alpha_words.specs.declared.PalCall.{PalCall}
use Rattle.alpha_words.specs.declared.PalCall.TheVariants.{Callsys}
use Rattle.alpha_words.specs.Digits.{low_bytes, little}
use Rattle.alpha_words.specs.Regs.{reg, put}
use Rattle.alpha_table.specs.declared.op.Cond.{Cond}
use Rattle.alpha_table.specs.declared.op.TrapOp.{TrapOp}
use Rattle.alpha_table.specs.declared.rows.MemOp.{MemOp}
use Rattle.alpha_table.specs.declared.rows.MemOp.TheVariants.{Ldah}
use Rattle.alpha_table.specs.declared.rows.Extension.{Extension}
use Rattle.alpha_table.specs.declared.rows.Extension.TheVariants.{Zero, Sign}
use Rattle.alpha_table.specs.declared.columns.MemAccess.{MemAccess}
use Rattle.alpha_table.specs.Class.{Class, operate, trigger, address, load, store, load_locked, store_conditional}
use Rattle.alpha_table.specs.Class.{branch, jump, barrier, idle}
use Rattle.alpha_table.specs.Code.{class_at}
use Rattle.alpha_values.specs.Numbers.{signed, register_of}
use Rattle.alpha_values.specs.Op.{result_of}
use Rattle.alpha_values.specs.Source.{source_value}
use Rattle.alpha_values.specs.TrapOp.{overflow_of, completed_of, stops}
use Rattle.alpha_values.specs.Cond.{is_taken}
use Rattle.alpha_values.specs.Address.{address_of, high_address_of, access_address}
use Rattle.alpha_mem.specs.declared.access.MemFault.{MemFault}
use Rattle.alpha_mem.specs.declared.access.MemFault.TheVariants as faults
use Rattle.alpha_mem.specs.Intent.{Intent, Load, Store}
use Rattle.alpha_mem.specs.Block.{Block, shapes}
use Rattle.alpha_mem.specs.Fault.{fault_of}
use Rattle.alpha_mem.specs.Memory.{bytes_at, write_bytes}
use Rattle.alpha_pal.specs.Call.{Silent, Called, continues, exits, signals, call}
use Rattle.alpha_image.specs.Parts.{place_of}
use Rattle.alpha_seq.specs.declared.end.End.{End}
use Rattle.alpha_seq.specs.declared.end.End.TheVariants as ends
use Rattle.alpha_seq.specs.State.{Program, State, Went, Barriered, Overflowed, Ends, Stepped, stepped}

-- ---- how a step goes

-- the address of the next word
abbrev pub next_pc : State → ℕ
next_pc s = (s.pc + 4) % 2 ^ 64

-- on to the next word
abbrev pub onward : State → State
onward s = record s { pc = next_pc s }

-- on to the next word, with a value in a register
abbrev pub setting : State → ℕ → ℕ → State
setting s r value = record s { regs = put s.regs r value; pc = next_pc s }

abbrev pub went : State → Stepped
went s = stepped s Went

-- the program ends, and the state stays
abbrev pub ended : State → End → Stepped
ended s end = stepped s (Ends end)

-- ---- operate instructions

-- after an overflow that is completed: the value stands in the destination, the overflow is logged, the lock flag is
-- clear
abbrev pub logging : State → ℕ → ℕ → State
logging s rc value = record s {
  regs = put s.regs rc value;
  pc = next_pc s;
  lock = None;
  count = (s.count + 1) % 2 ^ 64;
  logged = s.pc;
}

-- an overflow, whose completed value is given
abbrev pub overflowed : Completion → State → ℕ → ℕ → Stepped
overflowed completion s rc value =
    if stops completion then ended s (ends.Overflow s.pc) else stepped (logging s rc value) (Overflowed s.pc)

-- an instruction that may overflow; where it doesn't, its completed value is its exact result
abbrev pub trap : Completion → TrapOp → ℕ → ℕ → ℕ → State → Stepped
trap completion op a b rc s =
    if overflow_of op a b then overflowed completion s rc (completed_of op a b completion)
    else went (setting s rc (completed_of op a b completion))

-- ---- addresses and accesses

-- what LDA and LDAH compute
abbrev pub lda_value : MemOp → ℕ → ℤ → ℕ
lda_value Ldah base disp = high_address_of base disp
lda_value _ base disp = address_of base disp

-- the address of an access
abbrev pub accessed : MemAccess → State → ℕ
accessed at s = access_address at (reg s.regs at.base)

abbrev pub fault_end : MemFault → ℕ → ℕ → End
fault_end faults.Align pc addr = ends.Align pc addr
fault_end faults.Region pc addr = ends.Access pc addr

-- the state after an access at an address, unless the access faults
abbrev pub unless : Option MemFault → ℕ → State → State → Stepped
unless None addr s after = went after
unless (Some fault) addr s after = ended s (fault_end fault s.pc addr)

-- the state after an access that loads or stores, unless it faults
abbrev pub accessing : Intent → MemAccess → State → State → Stepped
accessing intent at s after = unless (fault_of (shapes s.mem) intent (accessed at s) at.bytes) (accessed at s) s after

-- what a load puts into its register; the longwords alone are extended with the sign
abbrev pub loaded : Extension → MemAccess → State → ℕ
loaded Zero at s = little (bytes_at s.mem (accessed at s) at.bytes)
loaded Sign at s = register_of (signed w32 (little (bytes_at s.mem (accessed at s) at.bytes)))

-- the memory after a store of a register's low bytes
abbrev pub written_memory : MemAccess → ℕ → State → List Block
written_memory at ra s = write_bytes s.mem (accessed at s) (low_bytes at.bytes (reg s.regs ra))

-- the number that the lock flag gets: that of the sixteen bytes in which the address lies
abbrev pub lock_block : MemAccess → State → ℕ
lock_block at s = accessed at s / 16

-- whether a conditional store succeeds: the flag has the number
abbrev pub matches : Option ℕ → ℕ → Bool
matches lock block = option_map_or (λ n. n == block) lock false

-- after a conditional store, which writes its register after the memory; the flag is clear in both cases
abbrev pub conditional : Bool → MemAccess → ℕ → State → State
conditional true at ra s =
    record s { regs = put s.regs ra 1; pc = next_pc s; mem = written_memory at ra s; lock = None }
conditional false at ra s = record s { regs = put s.regs ra 0; pc = next_pc s; lock = None }

-- ---- turns

-- a branch's target counts words from the next one
abbrev pub branch_target : State → ℤ → ℕ
branch_target s disp = register_of (pos (s.pc + 4) +ℤ pos 4 *ℤ disp)

-- a branch with a condition tests its register, one without turns and leaves the next address there
abbrev pub branched : Option Cond → ℕ → ℤ → State → State
branched None ra disp s = record s { regs = put s.regs ra (next_pc s); pc = branch_target s disp }
branched (Some c) ra disp s =
    record s { pc = (if is_taken c (reg s.regs ra) then branch_target s disp else next_pc s) }

-- a jump's target is read before the next address is left, and its two low bits are cleared
abbrev pub jumped : ℕ → ℕ → State → State
jumped ra rb s = record s { regs = put s.regs ra (next_pc s); pc = reg s.regs rb / 4 * 4 }

-- ---- barriers

-- the lock flag after a PAL call: a return from callsys alone clears it
abbrev pub lock_after : PalCall → Option ℕ → Option ℕ
lock_after Callsys lock = None
lock_after function lock = lock

abbrev pub returned : PalCall → Called → State → Stepped
returned function (continues regs mem unique traffic) s =
    stepped (record s { regs = regs; pc = next_pc s; mem = mem; unique = unique; lock = lock_after function s.lock })
    (Barriered traffic (next_pc s) regs)
returned function (exits v) s = ended s (ends.Exit v)
returned function (signals code) s = ended s (ends.Signal code s.pc)

-- ---- the step

-- the class of the word at the PC, none outside the code
abbrev pub next_class : Program → ℕ → Option Class
next_class g pc = option_and_then (class_at g.image.words) (place_of g.image pc)

-- a step at a word of this class, where this is what there is to be read
abbrev pub step : Program → Option Class → State → List ℕ → Stepped
step g None s input = ended s (ends.Fetch s.pc)
step g (Some (operate op ra src rc)) s input =
    went (setting s rc (result_of g.image.level op (reg s.regs ra) (source_value s.regs src) (reg s.regs rc)))
step g (Some (trigger op ra src rc)) s input = trap g.completion op (reg s.regs ra) (source_value s.regs src) rc s
step g (Some (address op ra rb disp)) s input = went (setting s ra (lda_value op (reg s.regs rb) disp))
step g (Some (load extension at ra)) s input = accessing Load at s (setting s ra (loaded extension at s))
step g (Some (store at ra)) s input = accessing Store at s (record (onward s) { mem = written_memory at ra s })
step g (Some (load_locked extension at ra)) s input =
    accessing Load at s (record (setting s ra (loaded extension at s)) { lock = Some (lock_block at s) })
step g (Some (store_conditional at ra)) s input =
    accessing Store at s (conditional (matches s.lock (lock_block at s)) at ra s)
step g (Some (branch condition ra disp)) s input = went (branched condition ra disp s)
step g (Some (jump ra rb)) s input = went (jumped ra rb s)
step g (Some (barrier None)) s input = stepped (onward s) (Barriered Silent (next_pc s) s.regs)
step g (Some (barrier (Some function))) s input = returned function (call function s.regs s.mem s.unique input) s
step g (Some idle) s input = went (onward s)

-- the step from a state
abbrev pub step_from : Program → State → List ℕ → Stepped
step_from g s input = step g (next_class g s.pc) s input
