-- The rows of the table but for the operate instructions.
use Rattle.std.specs.Prelude.{ℕ, Bool, true, false, Option, Some, None, List}
use Prim.Native.String.{String}
use Rattle.alpha_words.specs.declared.PalCall.{PalCall}
use Rattle.alpha_words.specs.declared.PalCall.TheVariants as calls
use Rattle.alpha_table.specs.declared.op.Cond.{Cond}
use Rattle.alpha_table.specs.declared.op.Cond.TheVariants.{Lbc, Lbs, Eq, Ne, Lt, Le, Ge, Gt}
use Rattle.alpha_table.specs.declared.rows.MemOp.{MemOp}
use Rattle.alpha_table.specs.declared.rows.MemOp.TheVariants as memories
use Rattle.alpha_table.specs.declared.rows.Extension.TheVariants.{Zero, Sign}
use Rattle.alpha_table.specs.declared.rows.MemRole.{MemRole}
use Rattle.alpha_table.specs.declared.rows.MemRole.TheVariants.{Address, Load, Store, LoadLocked, StoreConditional}
use Rattle.alpha_table.specs.declared.rows.MemRow.{MemRow}
use Rattle.alpha_table.specs.declared.rows.BranchOp.{BranchOp}
use Rattle.alpha_table.specs.declared.rows.BranchOp.TheVariants as branches
use Rattle.alpha_table.specs.declared.rows.BranchRow.{BranchRow}
use Rattle.alpha_table.specs.declared.rows.JumpKind.{JumpKind}
use Rattle.alpha_table.specs.declared.rows.JumpKind.TheVariants as jumps
use Rattle.alpha_table.specs.declared.rows.MiscOp.{MiscOp}
use Rattle.alpha_table.specs.declared.rows.MiscOp.TheVariants as miscs
use Rattle.alpha_table.specs.declared.rows.MiscRow.{MiscRow}
use Rattle.alpha_table.specs.Entry.{Entry, entry}

abbrev pub memory : String → ℕ → MemRole → ℕ → Bool → Entry MemRow
memory name opcode role bytes clears =
    entry name (record { opcode = opcode; role = role; bytes = bytes; clears = clears })

-- The memory instructions: the name, the opcode, what it does with its address, to how many bytes, and whether the
-- three low bits of the address are cleared.
abbrev pub mem_entry : MemOp → Entry MemRow
mem_entry memories.Lda = memory "lda" 0x08 Address 0 false
mem_entry memories.Ldah = memory "ldah" 0x09 Address 0 false
mem_entry memories.Ldbu = memory "ldbu" 0x0a (Load Zero) 1 false
mem_entry memories.LdqU = memory "ldq_u" 0x0b (Load Zero) 8 true
mem_entry memories.Ldwu = memory "ldwu" 0x0c (Load Zero) 2 false
mem_entry memories.Stw = memory "stw" 0x0d Store 2 false
mem_entry memories.Stb = memory "stb" 0x0e Store 1 false
mem_entry memories.StqU = memory "stq_u" 0x0f Store 8 true
mem_entry memories.Ldl = memory "ldl" 0x28 (Load Sign) 4 false
mem_entry memories.Ldq = memory "ldq" 0x29 (Load Zero) 8 false
mem_entry memories.LdlL = memory "ldl_l" 0x2a (LoadLocked Sign) 4 false
mem_entry memories.LdqL = memory "ldq_l" 0x2b (LoadLocked Zero) 8 false
mem_entry memories.Stl = memory "stl" 0x2c Store 4 false
mem_entry memories.Stq = memory "stq" 0x2d Store 8 false
mem_entry memories.StlC = memory "stl_c" 0x2e StoreConditional 4 false
mem_entry memories.StqC = memory "stq_c" 0x2f StoreConditional 8 false

abbrev pub mem_row : MemOp → MemRow
mem_row op = (mem_entry op).row

abbrev pub mem_name : MemOp → List ℕ
mem_name op = (mem_entry op).name

abbrev pub branch : String → ℕ → Option Cond → Entry BranchRow
branch name opcode condition = entry name (record { opcode = opcode; condition = condition })

-- The branches: the name, the opcode, and what it tests its register for. BR and BSR always turn, and write the next
-- address.
abbrev pub branch_entry : BranchOp → Entry BranchRow
branch_entry branches.Br = branch "br" 0x30 None
branch_entry branches.Bsr = branch "bsr" 0x34 None
branch_entry branches.Blbc = branch "blbc" 0x38 (Some Lbc)
branch_entry branches.Beq = branch "beq" 0x39 (Some Eq)
branch_entry branches.Blt = branch "blt" 0x3a (Some Lt)
branch_entry branches.Ble = branch "ble" 0x3b (Some Le)
branch_entry branches.Blbs = branch "blbs" 0x3c (Some Lbs)
branch_entry branches.Bne = branch "bne" 0x3d (Some Ne)
branch_entry branches.Bge = branch "bge" 0x3e (Some Ge)
branch_entry branches.Bgt = branch "bgt" 0x3f (Some Gt)

abbrev pub branch_row : BranchOp → BranchRow
branch_row op = (branch_entry op).row

abbrev pub branch_name : BranchOp → List ℕ
branch_name op = (branch_entry op).name

-- The jumps: the name, and bits 15 to 14.
abbrev pub jump_entry : JumpKind → Entry ℕ
jump_entry jumps.Jmp = entry "jmp" 0
jump_entry jumps.Jsr = entry "jsr" 1
jump_entry jumps.Ret = entry "ret" 2
jump_entry jumps.JsrCoroutine = entry "jsr_coroutine" 3

abbrev pub jump_kind : JumpKind → ℕ
jump_kind kind = (jump_entry kind).row

abbrev pub jump_name : JumpKind → List ℕ
jump_name kind = (jump_entry kind).name

abbrev pub barrier : String → ℕ → Bool → Entry MiscRow
barrier name function reports = entry name (record { function = function; reports = reports })

-- The barriers with the miscellaneous opcode: the name, the function, and whether a pending trap is reported before it.
abbrev pub misc_entry : MiscOp → Entry MiscRow
misc_entry miscs.Trapb = barrier "trapb" 0x0000 true
misc_entry miscs.Excb = barrier "excb" 0x0400 true
misc_entry miscs.Mb = barrier "mb" 0x4000 false
misc_entry miscs.Wmb = barrier "wmb" 0x4400 false

abbrev pub misc_row : MiscOp → MiscRow
misc_row op = (misc_entry op).row

abbrev pub misc_name : MiscOp → List ℕ
misc_name op = (misc_entry op).name

-- The prefetches, without and with the intent to modify: the name and the function.
abbrev pub fetch_entry : Bool → Entry ℕ
fetch_entry false = entry "fetch" 0x8000
fetch_entry true = entry "fetch_m" 0xa000

abbrev pub fetch_function : Bool → ℕ
fetch_function modify = (fetch_entry modify).row

abbrev pub fetch_name : Bool → List ℕ
fetch_name modify = (fetch_entry modify).name

-- The PALcode calls: the name and the function.
abbrev pub pal_entry : PalCall → Entry ℕ
pal_entry calls.Bpt = entry "bpt" 0x80
pal_entry calls.Bugchk = entry "bugchk" 0x81
pal_entry calls.Callsys = entry "callsys" 0x83
pal_entry calls.Imb = entry "imb" 0x86
pal_entry calls.Rdunique = entry "rdunique" 0x9e
pal_entry calls.Wrunique = entry "wrunique" 0x9f
pal_entry calls.Gentrap = entry "gentrap" 0xaa

abbrev pub pal_function : PalCall → ℕ
pal_function call = (pal_entry call).row

abbrev pub pal_name : PalCall → List ℕ
pal_name call = (pal_entry call).name
