-- The instruction that a word stands for, by look-ups in the rows.
use Rattle.std.specs.Prelude.{ℕ, Bool, true, false, Option, Some, None, List, [], ◌∷◌, ◌==◌, ◌&&◌, if◌then◌else◌, find}
use Rattle.std.specs.Option.{option_map, option_and_then, option_or}
use Rattle.alpha_words.specs.Field.{field, signed_field}
use Rattle.alpha_words.specs.declared.PalCall.{PalCall}
use Rattle.alpha_words.specs.declared.PalCall.TheVariants as calls
use Rattle.alpha_table.specs.declared.op.Op.{Op}
use Rattle.alpha_table.specs.declared.op.Op.TheVariants as ops
use Rattle.alpha_table.specs.declared.op.OperandRule.{OperandRule}
use Rattle.alpha_table.specs.declared.op.OperandRule.TheVariants.{Any, Unary, UnaryRegister, Version}
use Rattle.alpha_table.specs.declared.rows.MemOp.{MemOp}
use Rattle.alpha_table.specs.declared.rows.MemOp.TheVariants as memories
use Rattle.alpha_table.specs.declared.rows.BranchOp.{BranchOp}
use Rattle.alpha_table.specs.declared.rows.BranchOp.TheVariants as branches
use Rattle.alpha_table.specs.declared.rows.JumpKind.{JumpKind}
use Rattle.alpha_table.specs.declared.rows.JumpKind.TheVariants as jumps
use Rattle.alpha_table.specs.declared.rows.MiscOp.{MiscOp}
use Rattle.alpha_table.specs.declared.rows.MiscOp.TheVariants as miscs
use Rattle.alpha_table.specs.declared.form.Src.{Src}
use Rattle.alpha_table.specs.declared.form.Src.TheVariants.{Reg, Lit}
use Rattle.alpha_table.specs.declared.form.Form.{Form}
use Rattle.alpha_table.specs.declared.form.Form.TheVariants.{Mem, Branch, Jump, Operate, Misc, Fetch, Pal}
use Rattle.alpha_table.specs.Op.{op_row}
use Rattle.alpha_table.specs.Rows.{mem_row, branch_row, jump_kind, misc_row, fetch_function, pal_function}

-- every operate instruction
abbrev pub every_op : List Op
every_op =
    ops.Addl ∷ ops.S4addl ∷ ops.Subl ∷ ops.S4subl ∷ ops.Cmpbge ∷ ops.S8addl ∷ ops.S8subl ∷ ops.Cmpult ∷ ops.Addq ∷
    ops.S4addq ∷ ops.Subq ∷ ops.S4subq ∷ ops.Cmpeq ∷ ops.S8addq ∷ ops.S8subq ∷ ops.Cmpule ∷ ops.AddlV ∷ ops.SublV ∷
    ops.Cmplt ∷ ops.AddqV ∷ ops.SubqV ∷ ops.Cmple ∷ ops.And ∷ ops.Bic ∷ ops.Cmovlbs ∷ ops.Cmovlbc ∷ ops.Bis ∷
    ops.Cmoveq ∷ ops.Cmovne ∷ ops.Ornot ∷ ops.Xor ∷ ops.Cmovlt ∷ ops.Cmovge ∷ ops.Eqv ∷ ops.Amask ∷ ops.Cmovle ∷
    ops.Cmovgt ∷ ops.Implver ∷ ops.Mskbl ∷ ops.Extbl ∷ ops.Insbl ∷ ops.Mskwl ∷ ops.Extwl ∷ ops.Inswl ∷ ops.Mskll ∷
    ops.Extll ∷ ops.Insll ∷ ops.Zap ∷ ops.Zapnot ∷ ops.Mskql ∷ ops.Srl ∷ ops.Extql ∷ ops.Sll ∷ ops.Insql ∷ ops.Sra ∷
    ops.Mskwh ∷ ops.Inswh ∷ ops.Extwh ∷ ops.Msklh ∷ ops.Inslh ∷ ops.Extlh ∷ ops.Mskqh ∷ ops.Insqh ∷ ops.Extqh ∷
    ops.Mull ∷ ops.Mulq ∷ ops.Umulh ∷ ops.MullV ∷ ops.MulqV ∷ ops.Sextb ∷ ops.Sextw ∷ ops.Ctpop ∷ ops.Ctlz ∷
    ops.Cttz ∷ []

-- every memory instruction
abbrev pub every_mem : List MemOp
every_mem =
    memories.Lda ∷ memories.Ldah ∷ memories.Ldbu ∷ memories.LdqU ∷ memories.Ldwu ∷ memories.Stw ∷ memories.Stb ∷
    memories.StqU ∷ memories.Ldl ∷ memories.Ldq ∷ memories.LdlL ∷ memories.LdqL ∷ memories.Stl ∷ memories.Stq ∷
    memories.StlC ∷ memories.StqC ∷ []

-- every branch
abbrev pub every_branch : List BranchOp
every_branch =
    branches.Br ∷ branches.Bsr ∷ branches.Blbc ∷ branches.Beq ∷ branches.Blt ∷ branches.Ble ∷ branches.Blbs ∷
    branches.Bne ∷ branches.Bge ∷ branches.Bgt ∷ []

-- every jump
abbrev pub every_jump : List JumpKind
every_jump =
    jumps.Jmp ∷ jumps.Jsr ∷ jumps.Ret ∷ jumps.JsrCoroutine ∷ []

-- every barrier with the miscellaneous opcode
abbrev pub every_misc : List MiscOp
every_misc =
    miscs.Trapb ∷ miscs.Excb ∷ miscs.Mb ∷ miscs.Wmb ∷ []

-- every PALcode call
abbrev pub every_pal : List PalCall
every_pal =
    calls.Bpt ∷ calls.Bugchk ∷ calls.Callsys ∷ calls.Imb ∷ calls.Rdunique ∷ calls.Wrunique ∷ calls.Gentrap ∷ []

abbrev pub operate_at : ℕ → ℕ → Option Op
operate_at opcode function = find (λ op. (op_row op).opcode == opcode && (op_row op).function == function) every_op

abbrev pub memory_at : ℕ → Option MemOp
memory_at opcode = find (λ op. (mem_row op).opcode == opcode) every_mem

abbrev pub branch_at : ℕ → Option BranchOp
branch_at opcode = find (λ op. (branch_row op).opcode == opcode) every_branch

abbrev pub jump_at : ℕ → Option JumpKind
jump_at kind = find (λ op. jump_kind op == kind) every_jump

abbrev pub misc_at : ℕ → Option MiscOp
misc_at function = find (λ op. (misc_row op).function == function) every_misc

abbrev pub fetch_at : ℕ → Option Bool
fetch_at function = find (λ modify. fetch_function modify == function) (false ∷ true ∷ [])

abbrev pub pal_at : ℕ → Option PalCall
pal_at function = find (λ call. pal_function call == function) every_pal

-- the second source of an operate word
unfoldable pub source_of : ℕ → Option Src
source_of word =
    if field 12 12 word == 1 then Some (Lit (field 20 13 word))
    else (if field 15 13 word == 0 then Some (Reg (field 20 16 word)) else None)

abbrev pub source_is : Src → ℕ → Bool
source_is (Reg r) n = false
source_is (Lit m) n = m == n

abbrev pub is_register : Src → Bool
is_register (Reg r) = true
is_register (Lit n) = false

-- whether the first register and the second source are as a row requires
abbrev pub operands_fit : OperandRule → ℕ → Src → Bool
operands_fit Any ra src = true
operands_fit Unary ra src = ra == 31
operands_fit UnaryRegister ra src = ra == 31 && is_register src
operands_fit Version ra src = ra == 31 && source_is src 1

unfoldable pub memory_form : ℕ → Option Form
memory_form word =
    option_map (λ op. Mem op (field 25 21 word) (field 20 16 word) (signed_field 15 0 word))
    (memory_at (field 31 26 word))

unfoldable pub branch_form : ℕ → Option Form
branch_form word =
    option_map (λ op. Branch op (field 25 21 word) (signed_field 20 0 word)) (branch_at (field 31 26 word))

unfoldable pub jump_form : ℕ → Option Form
jump_form word =
    if field 31 26 word == 0x1a then
    option_map (λ kind. Jump kind (field 25 21 word) (field 20 16 word) (field 13 0 word)) (jump_at (field 15 14 word))
    else None

unfoldable pub operate_form : ℕ → Option Form
operate_form word =
    option_and_then (λ op. option_and_then (λ src.
    if operands_fit (op_row op).operands (field 25 21 word) src then
    Some (Operate op (field 25 21 word) src (field 4 0 word))
    else None) (source_of word)) (operate_at (field 31 26 word) (field 11 5 word))

unfoldable pub misc_form : ℕ → Option Form
misc_form word =
    if field 31 26 word == 0x18 && (field 25 21 word == 31 && field 20 16 word == 31) then
    option_map Misc (misc_at (field 15 0 word))
    else None

unfoldable pub fetch_form : ℕ → Option Form
fetch_form word =
    if field 31 26 word == 0x18 && field 25 21 word == 31 then
    option_map (λ modify. Fetch modify (field 20 16 word)) (fetch_at (field 15 0 word))
    else None

unfoldable pub pal_form : ℕ → Option Form
pal_form word = if field 31 26 word == 0 then option_map Pal (pal_at (field 25 0 word)) else None

-- the instruction of a word, in whichever format has it
unfoldable pub decoded : ℕ → Option Form
decoded word =
    option_or (memory_form word)
    (option_or (branch_form word)
    (option_or (jump_form word)
    (option_or (operate_form word)
    (option_or (misc_form word)
    (option_or (fetch_form word) (pal_form word))))))
