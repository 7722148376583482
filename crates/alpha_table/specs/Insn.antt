-- An instruction as its row and its word.
use Rattle.std.specs.Prelude.{◌≡◌, ℕ, pos, length, Bool, true, false, List, [], ◌∷◌, ◌+◌, ◌==◌, ◌&&◌, ◌||◌}
use Rattle.std.specs.Prelude.{if◌then◌else◌, is_none, not}
use Rattle.std.specs.Option.{unwrap_or}
use Rattle.alpha_words.specs.Field.{field, signed_field}
use Rattle.alpha_table.specs.declared.op.Op.{Op}
use Rattle.alpha_table.specs.declared.op.OperandRule.{OperandRule}
use Rattle.alpha_table.specs.declared.op.OperandRule.TheVariants.{Any, Unary, UnaryRegister, Version}
use Rattle.alpha_table.specs.declared.rows.JumpKind.TheVariants as jumps
use Rattle.alpha_table.specs.declared.rows.BranchOp.TheVariants as branches
use Rattle.alpha_table.specs.declared.form.Src.{Src}
use Rattle.alpha_table.specs.declared.form.Src.TheVariants.{Reg, Lit}
use Rattle.alpha_table.specs.declared.form.Form.{Form}
use Rattle.alpha_table.specs.declared.form.Form.TheVariants.{Mem, Branch, Jump, Operate, Misc, Fetch, Pal}
use Rattle.alpha_table.specs.declared.insn.InsnRow.{InsnRow}
use Rattle.alpha_table.specs.declared.insn.InsnRow.TheVariants as rows
use Rattle.alpha_table.specs.declared.insn.Insn.TheInside.{Inside}
use Rattle.alpha_table.specs.Op.{op_row}
use Rattle.alpha_table.specs.Rows.{mem_row, branch_row}
use Rattle.alpha_table.specs.Row.{Row, IsInsn}
use Rattle.alpha_table.specs.Decoded.{operate_at, memory_at, branch_at, jump_at}
use Rattle.alpha_table.specs.Encoded.{encoded}

-- the second source that bit 12 tells
abbrev pub source_in : ℕ → Src
source_in word = if field 12 12 word == 1 then Lit (field 20 13 word) else Reg (field 20 16 word)

-- the instruction that a word of the row stands for; no instruction has one of the last two rows
abbrev pub form_in : InsnRow → ℕ → Form
form_in (rows.Mem op) word = Mem op (field 25 21 word) (field 20 16 word) (signed_field 15 0 word)
form_in (rows.Branch op) word = Branch op (field 25 21 word) (signed_field 20 0 word)
form_in rows.Jump word =
    Jump (unwrap_or (jump_at (field 15 14 word)) jumps.Jmp) (field 25 21 word) (field 20 16 word)
    (field 13 0 word)
form_in (rows.Operate op) word = Operate op (field 25 21 word) (source_in word) (field 4 0 word)
form_in (rows.Misc op) word = Misc op
form_in (rows.Fetch modify) word = Fetch modify (field 20 16 word)
form_in (rows.Pal call) word = Pal call
form_in (rows.Ruled op) word = Branch branches.Br 0 (pos 0)
form_in rows.Other word = Branch branches.Br 0 (pos 0)

-- the row of an instruction
abbrev pub form_row : Form → InsnRow
form_row (Mem op ra rb disp) = rows.Mem op
form_row (Branch op ra disp) = rows.Branch op
form_row (Jump kind ra rb hint) = rows.Jump
form_row (Operate op ra src rc) = rows.Operate op
form_row (Misc op) = rows.Misc op
form_row (Fetch modify rb) = rows.Fetch modify
form_row (Pal call) = rows.Pal call

-- the word stands for the instruction that it has by the row
abbrev pub Decodes : InsnRow → ℕ → Type 0
Decodes row word = (form_row (form_in row word) ≡ row) × Row word (form_in row word)

abbrev pub form_of : Inside → Form
form_of i = form_in i.row i.word.0

abbrev pub insn_of : Form → Inside
insn_of form = record { row = form_row form; word = record { 0 = encoded form } }

-- the fields are within the row, and the row and the word are those of the instruction
abbrev pub IsKnown : Inside → Type 0
IsKnown i = IsInsn (form_of i) × (insn_of (form_of i) ≡ i)

-- the opcodes of the operate instructions
abbrev pub is_operate : ℕ → Bool
is_operate o = o == 0x10 || (o == 0x11 || (o == 0x12 || (o == 0x13 || o == 0x1c)))

-- no operate instruction has this function, where its opcode is one of theirs
abbrev pub is_free : Bool → ℕ → ℕ → Bool
is_free true opcode function = is_none (operate_at opcode function)
is_free false opcode function = true

abbrev pub is_at : ℕ → ℕ → Op → Bool
is_at opcode function op = (op_row op).opcode == opcode && (op_row op).function == function

abbrev pub takes_any : OperandRule → Bool
takes_any Any = true
takes_any Unary = false
takes_any UnaryRegister = false
takes_any Version = false

-- the row is that of words with this opcode and function
abbrev pub matches_row : ℕ → ℕ → InsnRow → Bool
matches_row opcode function (rows.Mem op) = (mem_row op).opcode == opcode
matches_row opcode function (rows.Branch op) = (branch_row op).opcode == opcode
matches_row opcode function rows.Jump = opcode == 0x1a
matches_row opcode function (rows.Operate op) = is_at opcode function op && takes_any (op_row op).operands
matches_row opcode function (rows.Ruled op) = is_at opcode function op
matches_row opcode function (rows.Misc op) = false
matches_row opcode function (rows.Fetch modify) = false
matches_row opcode function (rows.Pal call) = false
matches_row opcode function rows.Other =
    is_none (memory_at opcode) && (is_none (branch_at opcode) &&
    (not (opcode == 0x1a) && is_free (is_operate opcode) opcode function))

-- the rows of the functions of one opcode, from a function on
abbrev pub all_suit : ℕ → ℕ → List InsnRow → Bool
all_suit opcode function [] = true
all_suit opcode function (row ∷ rows) =
    matches_row opcode function row && all_suit opcode (function + 1) rows

-- the rows of all opcodes, from an opcode on, each with those of its 128 functions
abbrev pub tables_suit : ℕ → List (List InsnRow) → Bool
tables_suit opcode [] = true
tables_suit opcode (table ∷ tables) =
    (length table == 128 && all_suit opcode 0 table) && tables_suit (opcode + 1) tables
