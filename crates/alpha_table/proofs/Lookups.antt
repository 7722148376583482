-- Each row is found by its numbers and by its name, and nothing by the numbers of another format.
use Rattle.std.proofs.Common.{◌≡◌, ℕ, ◌<◌, ◌≤◌, ◌^◌, nat_lt, Bool, true, false, ◌==◌, ◌||◌, ◌&&◌, eqb, Option, Some}
use Rattle.std.proofs.Common.{None, List, ◌++◌, find, refl, subst, sym, arith}
use Rattle.std.specs.Str.{bytes_eq}
use Rattle.std.proofs.lemmas.Bool.{eqb-true, ltb-true, and_parts}
use Rattle.alpha_words.specs.declared.PalCall.{PalCall}
use Rattle.alpha_words.specs.declared.PalCall.TheVariants as calls
use Rattle.alpha_table.specs.declared.op.Op.{Op}
use Rattle.alpha_table.specs.declared.op.Op.TheVariants as ops
use Rattle.alpha_table.specs.declared.rows.MemOp.{MemOp}
use Rattle.alpha_table.specs.declared.rows.MemOp.TheVariants as memories
use Rattle.alpha_table.specs.declared.rows.BranchOp.{BranchOp}
use Rattle.alpha_table.specs.declared.rows.BranchOp.TheVariants as branches
use Rattle.alpha_table.specs.declared.rows.JumpKind.{JumpKind}
use Rattle.alpha_table.specs.declared.rows.JumpKind.TheVariants as jumps
use Rattle.alpha_table.specs.declared.rows.MiscOp.{MiscOp}
use Rattle.alpha_table.specs.declared.rows.MiscOp.TheVariants as miscs
use Rattle.alpha_table.specs.declared.names.Mnemonic.{Mnemonic}
use Rattle.alpha_table.specs.declared.names.Mnemonic.TheVariants.{Mem, Branch, Jump, Operate, Misc, Fetch, Pal}
use Rattle.alpha_table.specs.declared.operate.TheConstants.{OPERATES}
use Rattle.alpha_table.specs.declared.formats.TheConstants.{MEMORIES, BRANCHES, JUMPS, MISCS, FETCHES, PAL_CALLS}
use Rattle.alpha_table.specs.Op.{op_row}
use Rattle.alpha_table.specs.Rows.{mem_row, branch_row, jump_kind, misc_row, fetch_function, pal_function}
use Rattle.alpha_table.specs.Decoded.{operate_at, memory_at, branch_at, jump_at, misc_at, fetch_at, pal_at}
use Rattle.alpha_table.specs.Insn.{is_operate}
use Rattle.alpha_table.specs.Names.{name_of}

-- the opcodes of the memory instructions
abbrev is_memory : ℕ → Bool
is_memory o = (nat_lt 0x07 o && nat_lt o 0x10) || (nat_lt 0x27 o && nat_lt o 0x30)

-- the row with a name, by a look at each
abbrev pub with_name : List ℕ → Option Mnemonic
with_name name =
    find (λ m. bytes_eq (name_of m) name)
    (OPERATES ++ (MEMORIES ++ (BRANCHES ++ (JUMPS ++ (MISCS ++ (FETCHES ++ PAL_CALLS))))))

-- One line a row: it is found by its numbers, they are within their fields, and it is found by its name.

pub operate_known : (row : Op)
    → (operate_at (op_row row).opcode (op_row row).function ≡ Some row)
    × ((is_operate (op_row row).opcode && nat_lt (op_row row).function 128) ≡ true)
    × (with_name (name_of (Operate row)) ≡ Some (Operate row))
operate_known ops.Addl = (refl, refl, refl)
operate_known row = (refl, refl, refl)

pub memory_known : (row : MemOp)
    → (memory_at (mem_row row).opcode ≡ Some row) × (is_memory (mem_row row).opcode ≡ true)
    × (with_name (name_of (Mem row)) ≡ Some (Mem row))
memory_known memories.Lda = (refl, refl, refl)
memory_known row = (refl, refl, refl)

pub branch_known : (row : BranchOp)
    → (branch_at (branch_row row).opcode ≡ Some row)
    × ((nat_lt 0x2f (branch_row row).opcode && nat_lt (branch_row row).opcode 0x40) ≡ true)
    × (with_name (name_of (Branch row)) ≡ Some (Branch row))
branch_known branches.Br = (refl, refl, refl)
branch_known row = (refl, refl, refl)

pub jump_known : (row : JumpKind)
    → (jump_at (jump_kind row) ≡ Some row) × (nat_lt (jump_kind row) 4 ≡ true)
    × (with_name (name_of (Jump row)) ≡ Some (Jump row))
jump_known jumps.Jmp = (refl, refl, refl)
jump_known jumps.Jsr = (refl, refl, refl)
jump_known jumps.Ret = (refl, refl, refl)
jump_known jumps.JsrCoroutine = (refl, refl, refl)

pub misc_known : (row : MiscOp)
    → (misc_at (misc_row row).function ≡ Some row) × (nat_lt (misc_row row).function 0x10000 ≡ true)
    × (with_name (name_of (Misc row)) ≡ Some (Misc row))
misc_known miscs.Trapb = (refl, refl, refl)
misc_known miscs.Excb = (refl, refl, refl)
misc_known miscs.Mb = (refl, refl, refl)
misc_known miscs.Wmb = (refl, refl, refl)

pub fetch_known : (row : Bool)
    → (fetch_at (fetch_function row) ≡ Some row) × (nat_lt (fetch_function row) 0x10000 ≡ true)
    × (with_name (name_of (Fetch row)) ≡ Some (Fetch row))
fetch_known false = (refl, refl, refl)
fetch_known true = (refl, refl, refl)

pub pal_known : (row : PalCall)
    → (pal_at (pal_function row) ≡ Some row) × (nat_lt (pal_function row) 0x4000000 ≡ true)
    × (with_name (name_of (Pal row)) ≡ Some (Pal row))
pal_known calls.Bpt = (refl, refl, refl)
pal_known row = (refl, refl, refl)

-- the numbers are within their fields

pub is_operate-row : (row : Op) → is_operate (op_row row).opcode ≡ true
is_operate-row row =
    (and_parts (is_operate (op_row row).opcode) (nat_lt (op_row row).function 128) (operate_known row).1).0

pub function-operate : (row : Op) → (op_row row).function < 128
function-operate row =
    ltb-true (op_row row).function 128
    (and_parts (is_operate (op_row row).opcode) (nat_lt (op_row row).function 128) (operate_known row).1).1

pub kind-jump : (row : JumpKind) → jump_kind row < 4
kind-jump row = ltb-true (jump_kind row) 4 (jump_known row).1

pub function-misc : (row : MiscOp) → (misc_row row).function < 2 ^ 16
function-misc row = ltb-true (misc_row row).function 0x10000 (misc_known row).1

pub function-fetch : (row : Bool) → fetch_function row < 2 ^ 16
function-fetch row = ltb-true (fetch_function row) 0x10000 (fetch_known row).1

pub function-pal : (row : PalCall) → pal_function row < 2 ^ 26
function-pal row = ltb-true (pal_function row) 0x4000000 (pal_known row).1

-- where the opcodes of each format lie

abbrev pub IsOperateOpcode : ℕ → Type 0
IsOperateOpcode o = (0x10 ≤ o) × (o ≤ 0x1c) × (0x14 ≤ o → 0x1c ≤ o)

abbrev pub IsMemoryOpcode : ℕ → Type 0
IsMemoryOpcode o = (0x08 ≤ o) × (o ≤ 0x2f) × (0x10 ≤ o → 0x28 ≤ o)

abbrev pub IsBranchOpcode : ℕ → Type 0
IsBranchOpcode o = (0x30 ≤ o) × (o ≤ 0x3f)

-- what holds of the five opcodes holds of each operate instruction's
by_opcode : (P : ℕ → Type 0) (o : ℕ) → P 0x10 → P 0x11 → P 0x12 → P 0x13 → P 0x1c → is_operate o ≡ true → P o
by_opcode P o a b c d e =
    first (o == 0x10) refl
    (first (o == 0x11) refl (first (o == 0x12) refl (first (o == 0x13) refl (λ h. same 0x1c h e) d) c) b) a
  where
    same : (n : ℕ) → (o == n) ≡ true → P n → P o
    same n h p = subst P (sym (eqb-true o n h)) p

    first : {n : ℕ} {rest : Bool} (t : Bool) → (o == n) ≡ t → (rest ≡ true → P o) → P n → (t || rest) ≡ true → P o
    first {n} true e other p h = same n e p
    first false e other p h = other h

pub memory_at-operate : (row : Op) → memory_at (op_row row).opcode ≡ None
memory_at-operate row =
    by_opcode (λ o. memory_at o ≡ None) (op_row row).opcode refl refl refl refl refl (is_operate-row row)

pub branch_at-operate : (row : Op) → branch_at (op_row row).opcode ≡ None
branch_at-operate row =
    by_opcode (λ o. branch_at o ≡ None) (op_row row).opcode refl refl refl refl refl (is_operate-row row)

pub jump-operate : (row : Op) → eqb (op_row row).opcode 0x1a ≡ false
jump-operate row = by_opcode (λ o. eqb o 0x1a ≡ false) (op_row row).opcode refl refl refl refl refl (is_operate-row row)

pub opcode-operate : (row : Op) → IsOperateOpcode (op_row row).opcode
opcode-operate row =
    by_opcode IsOperateOpcode (op_row row).opcode (omega arith, omega arith, λ h. omega arith)
    (omega arith, omega arith, λ h. omega arith) (omega arith, omega arith, λ h. omega arith)
    (omega arith, omega arith, λ h. omega arith) (omega arith, omega arith, λ h. omega arith) (is_operate-row row)

nat_lt-between : (low high o : ℕ) → (nat_lt low o && nat_lt o high) ≡ true → (low < o) × (o < high)
nat_lt-between low high o h =
    let parts = and_parts (nat_lt low o) (nat_lt o high) h in
    (ltb-true low o parts.0, ltb-true o high parts.1)

pub opcode-memory : (row : MemOp) → IsMemoryOpcode (mem_row row).opcode
opcode-memory row = either (nat_lt 0x07 o && nat_lt o 0x10) refl (memory_known row).1
  where
    o : ℕ
    o = (mem_row row).opcode

    either : (t : Bool) → (nat_lt 0x07 o && nat_lt o 0x10) ≡ t → (t || (nat_lt 0x27 o && nat_lt o 0x30)) ≡ true
        → IsMemoryOpcode o
    either true e h = let lies = nat_lt-between 0x07 0x10 o e in (omega arith, omega arith, λ above. omega arith)
    either false e h = let lies = nat_lt-between 0x27 0x30 o h in (omega arith, omega arith, λ above. omega arith)

pub opcode-branch : (row : BranchOp) → IsBranchOpcode (branch_row row).opcode
opcode-branch row =
    let lies = nat_lt-between 0x2f 0x40 (branch_row row).opcode (branch_known row).1 in
    (omega arith, omega arith)

pub memory_at-branch : (row : BranchOp) → memory_at (branch_row row).opcode ≡ None
memory_at-branch branches.Br = refl
memory_at-branch row = refl
