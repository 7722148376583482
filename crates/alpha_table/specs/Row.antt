-- The instruction table: which word stands for which instruction.
use Rattle.std.specs.Prelude.{◌≡◌, ◌<◌, ◌^◌, ℕ, ℤ, pos, ◌+ℤ◌, ◌≤ℤ◌, ◌<ℤ◌, ⊤}
use Rattle.alpha_words.specs.Field.{field, signed_field}
use Rattle.alpha_table.specs.declared.op.OperandRule.{OperandRule}
use Rattle.alpha_table.specs.declared.op.OperandRule.TheVariants.{Any, Unary, UnaryRegister, Version}
use Rattle.alpha_table.specs.declared.form.Src.{Src}
use Rattle.alpha_table.specs.declared.form.Src.TheVariants.{Reg, Lit}
use Rattle.alpha_table.specs.declared.form.Form.{Form}
use Rattle.alpha_table.specs.declared.form.Form.TheVariants.{Mem, Branch, Jump, Operate, Misc, Fetch, Pal}
use Rattle.alpha_table.specs.Op.{op_row}
use Rattle.alpha_table.specs.Rows.{mem_row, branch_row, jump_kind, misc_row, fetch_function, pal_function}

abbrev pub IsRegister : Src → Type 0
IsRegister (Reg r) = ⊤
IsRegister (Lit n) = ⊥

-- the first register and the second source that a row requires
abbrev pub OperandsFit : OperandRule → ℕ → Src → Type 0
OperandsFit Any ra src = ⊤
OperandsFit Unary ra src = ra ≡ 31
OperandsFit UnaryRegister ra src = (ra ≡ 31) × IsRegister src
OperandsFit Version ra src = (ra ≡ 31) × (src ≡ Lit 1)

-- a second source is one of 32 registers, or a literal of 8 bits
abbrev pub IsSource : Src → Type 0
IsSource (Reg r) = r < 32
IsSource (Lit n) = n < 256

-- a signed number of so many bits more than one
abbrev pub IsSigned : ℕ → ℤ → Type 0
IsSigned bits n = (pos 0 ≤ℤ (n +ℤ pos (2 ^ bits))) × (n <ℤ pos (2 ^ bits))

-- an instruction of the table: each field is within its row
abbrev pub IsInsn : Form → Type 0
IsInsn (Mem op ra rb disp) = (ra < 32) × (rb < 32) × IsSigned 15 disp
IsInsn (Branch op ra disp) = (ra < 32) × IsSigned 20 disp
IsInsn (Jump kind ra rb hint) = (ra < 32) × (rb < 32) × (hint < 2 ^ 14)
IsInsn (Operate op ra src rc) = (ra < 32) × IsSource src × (rc < 32) × OperandsFit (op_row op).operands ra src
IsInsn (Misc op) = ⊤
IsInsn (Fetch modify rb) = rb < 32
IsInsn (Pal call) = ⊤

-- the fields of a second source: bit 12 tells a register, after three zeros, from a literal
abbrev pub SourceField : ℕ → Src → Type 0
SourceField word (Reg rb) = (field 20 16 word ≡ rb) × (field 15 13 word ≡ 0) × (field 12 12 word ≡ 0)
SourceField word (Lit n) = (field 20 13 word ≡ n) × (field 12 12 word ≡ 1)

-- the word stands for the instruction: one case for each format
abbrev pub Row : ℕ → Form → Type 0
Row word (Mem op ra rb disp) =
    (field 31 26 word ≡ (mem_row op).opcode) × (field 25 21 word ≡ ra) × (field 20 16 word ≡ rb)
    × (signed_field 15 0 word ≡ disp)
Row word (Branch op ra disp) =
    (field 31 26 word ≡ (branch_row op).opcode) × (field 25 21 word ≡ ra) × (signed_field 20 0 word ≡ disp)
Row word (Jump kind ra rb hint) =
    (field 31 26 word ≡ 0x1a) × (field 25 21 word ≡ ra) × (field 20 16 word ≡ rb) ×
    (field 15 14 word ≡ jump_kind kind) × (field 13 0 word ≡ hint)
Row word (Operate op ra src rc) =
    (field 31 26 word ≡ (op_row op).opcode) × (field 11 5 word ≡ (op_row op).function) × (field 25 21 word ≡ ra) ×
    SourceField word src × (field 4 0 word ≡ rc) × OperandsFit (op_row op).operands ra src
Row word (Misc op) =
    (field 31 26 word ≡ 0x18) × (field 25 21 word ≡ 31) × (field 20 16 word ≡ 31)
    × (field 15 0 word ≡ (misc_row op).function)
Row word (Fetch modify rb) =
    (field 31 26 word ≡ 0x18) × (field 25 21 word ≡ 31) × (field 20 16 word ≡ rb)
    × (field 15 0 word ≡ fetch_function modify)
Row word (Pal call) = (field 31 26 word ≡ 0) × (field 25 0 word ≡ pal_function call)
