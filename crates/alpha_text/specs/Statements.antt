-- What a statement says: from its name and its operands.
use Rattle.std.specs.Prelude.{ℕ, ℤ, pos, negsuc, List, [], Option, None, Some, if◌then◌else◌, nat_le}
use Rattle.std.specs.Option.{unwrap_or, option_map}
use Rattle.alpha_words.specs.declared.PalCall.{PalCall}
use Rattle.alpha_words.specs.declared.PalCall.TheVariants.{Bpt}
use Rattle.alpha_table.specs.declared.names.Mnemonic.{Mnemonic}
use Rattle.alpha_table.specs.declared.names.Mnemonic.TheVariants as mnemonics
use Rattle.alpha_table.specs.declared.op.Op.{Op}
use Rattle.alpha_table.specs.declared.op.Op.TheVariants.{Bis, Ornot, Subl, Subq, SublV, SubqV, Addl}
use Rattle.alpha_table.specs.declared.op.OperandRule.{OperandRule}
use Rattle.alpha_table.specs.declared.op.OperandRule.TheVariants.{Any, Unary, UnaryRegister, Version}
use Rattle.alpha_table.specs.declared.rows.MemOp.{MemOp}
use Rattle.alpha_table.specs.declared.rows.MemOp.TheVariants.{Lda, LdqU}
use Rattle.alpha_table.specs.declared.rows.BranchOp.{BranchOp}
use Rattle.alpha_table.specs.declared.rows.BranchOp.TheVariants.{Bsr}
use Rattle.alpha_table.specs.declared.rows.JumpKind.{JumpKind}
use Rattle.alpha_table.specs.declared.form.Src.{Src}
use Rattle.alpha_table.specs.declared.form.Src.TheVariants.{Reg, Lit}
use Rattle.alpha_table.specs.declared.form.Form.{Form}
use Rattle.alpha_table.specs.declared.form.Form.TheVariants.{Mem, Branch, Jump, Operate, Misc, Fetch, Pal}
use Rattle.alpha_table.specs.Op.{op_row}
use Rattle.alpha_operands.specs.declared.names.Half.{Half}
use Rattle.alpha_operands.specs.declared.names.Half.TheVariants as halves
use Rattle.alpha_operands.specs.declared.number.Number.{Number}
use Rattle.alpha_operands.specs.declared.number.Number.TheVariants as numbers
use Rattle.alpha_operands.specs.Operands.{Slots}
use Rattle.alpha_text.specs.declared.head.PseudoOp.{PseudoOp}
use Rattle.alpha_text.specs.declared.head.PseudoOp.TheVariants as owns
use Rattle.alpha_text.specs.declared.head.Head.{Head}
use Rattle.alpha_text.specs.declared.head.Head.TheVariants as heads
use Rattle.alpha_text.specs.declared.statement.Statement.{Statement}
use Rattle.alpha_text.specs.declared.statement.Statement.TheVariants as statements

-- a statement, its labels and texts without where they lie in memory
pub data Stmt : Type 0 where
  empty : Stmt
  code : (insn : Form) → Stmt
  target : (insn : Form) (label : List ℕ) (offset : ℤ) → Stmt
  high : (insn : Form) (label : List ℕ) (offset : ℤ) → Stmt
  low : (insn : Form) (label : List ℕ) (offset : ℤ) → Stmt
  level : (n : ℕ) → Stmt
  segment : (base : ℕ) → Stmt
  code_base : (n : ℕ) → Stmt
  data_base : (n : ℕ) → Stmt
  stack : (n : ℕ) → Stmt
  entry_at : (n : ℕ) → Stmt
  entry_label : (label : List ℕ) (offset : ℤ) → Stmt
  code_section : Stmt
  data_section : Stmt
  zero : (n : ℕ) → Stmt
  align : (n : ℕ) → Stmt
  values : (bytes : ℕ) (list : List ℕ) → Stmt
  text : (bytes : List ℕ) → Stmt

abbrev pub stmt_of : Statement → Stmt
stmt_of statements.Empty = empty
stmt_of (statements.Code insn) = code insn
stmt_of (statements.Target insn to) = target insn to.label.now to.offset
stmt_of (statements.High insn address) = high insn address.label.now address.offset
stmt_of (statements.Low insn address) = low insn address.label.now address.offset
stmt_of (statements.Level n) = level n
stmt_of (statements.Segment n) = segment n
stmt_of (statements.CodeBase n) = code_base n
stmt_of (statements.DataBase n) = data_base n
stmt_of (statements.Stack n) = stack n
stmt_of (statements.EntryAt n) = entry_at n
stmt_of (statements.EntryLabel to) = entry_label to.label.now to.offset
stmt_of statements.CodeSection = code_section
stmt_of statements.DataSection = data_section
stmt_of (statements.Zero n) = zero n
stmt_of (statements.Align n) = align n
stmt_of (statements.Values bytes list) = values bytes list.now
stmt_of (statements.Text t) = text t.now

-- the operands' numbers, each where its shape has one
abbrev pub displacement_in : Option Number → ℤ
displacement_in (Some (numbers.Displacement n)) = n
displacement_in _ = pos 0

abbrev pub words_in : Option Number → ℤ
words_in (Some (numbers.Words n)) = n
words_in _ = pos 0

abbrev pub hint_in : Option Number → ℕ
hint_in (Some (numbers.Hint n)) = n
hint_in _ = 0

abbrev pub source_in : Option Number → Option ℕ → Src
source_in (Some (numbers.Literal n)) rb = Lit n
source_in _ rb = Reg (unwrap_or rb 31)

abbrev pub whole_in : Option Number → ℕ
whole_in (Some (numbers.Whole n)) = n
whole_in _ = 0

abbrev pub zeroed_in : Option Number → ℕ
zeroed_in (Some (numbers.Zeroed n)) = n
zeroed_in _ = 0

abbrev pub align_in : Option Number → ℕ
align_in (Some (numbers.Align n)) = n
align_in _ = 0

abbrev pub level_in : Option Number → ℕ
level_in (Some (numbers.Level n)) = n
level_in _ = 1

abbrev pub call_in : Option Number → PalCall
call_in (Some (numbers.Call call)) = call
call_in _ = Bpt

-- a register, R31 where none is written
abbrev pub reg : Option ℕ → ℕ
reg r = unwrap_or r 31

-- an instruction with half of a label's address
abbrev pub half_stmt : Option Half → Form → List ℕ → ℤ → Stmt
half_stmt (Some halves.High) insn label offset = high insn label offset
half_stmt (Some halves.Low) insn label offset = low insn label offset
half_stmt None insn label offset = code insn

-- a memory instruction, with a number or with half of a label's address
abbrev pub memory_stmt : MemOp → Slots → Option (List ℕ) → Stmt
memory_stmt op o (Some label) = half_stmt o.half (Mem op (reg o.ra) (reg o.rb) (pos 0)) label o.offset
memory_stmt op o None = code (Mem op (reg o.ra) (reg o.rb) (displacement_in o.number))

-- `br` alone writes no register, `bsr` alone R26
abbrev pub link : BranchOp → ℕ
link Bsr = 26
link _ = 31

abbrev pub branch_stmt : BranchOp → Slots → Option (List ℕ) → Stmt
branch_stmt op o (Some label) = target (Branch op (unwrap_or o.ra (link op)) (pos 0)) label o.offset
branch_stmt op o None = code (Branch op (unwrap_or o.ra (link op)) (words_in o.number))

-- `ret` alone is `ret $31,($26),1`
abbrev pub jump_hint : Option ℕ → Option Number → ℕ
jump_hint (Some rb) n = hint_in n
jump_hint None n = 1

abbrev pub jump_form : JumpKind → Slots → Form
jump_form kind o = Jump kind (reg o.ra) (unwrap_or o.rb 26) (jump_hint o.rb o.number)

abbrev pub operate_form : OperandRule → Op → Slots → Form
operate_form Any op o = Operate op (reg o.ra) (source_in o.number o.rb) (reg o.rc)
operate_form Unary op o = Operate op 31 (source_in o.number o.rb) (reg o.rc)
operate_form UnaryRegister op o = Operate op 31 (Reg (reg o.rb)) (reg o.rc)
operate_form Version op o = Operate op 31 (Lit 1) (reg o.rc)

abbrev pub insn_stmt : Mnemonic → Slots → Stmt
insn_stmt (mnemonics.Mem op) o = memory_stmt op o o.label
insn_stmt (mnemonics.Branch op) o = branch_stmt op o o.label
insn_stmt (mnemonics.Jump kind) o = code (jump_form kind o)
insn_stmt (mnemonics.Operate op) o = code (operate_form (op_row op).operands op o)
insn_stmt (mnemonics.Misc op) o = code (Misc op)
insn_stmt (mnemonics.Fetch modify) o = code (Fetch modify (reg o.rb))
insn_stmt (mnemonics.Pal call) o = code (Pal call)

-- `mov N,$c` is the literal where N is one, and else an address
abbrev pub move_number : ℤ → ℕ → Form
move_number (pos n) rc = if nat_le n 255 then Operate Bis 31 (Lit n) rc else Mem Lda rc 31 (pos n)
move_number (negsuc n) rc = Mem Lda rc 31 (negsuc n)

-- an operation with R31 as its first source
abbrev pub of_zero : Op → Slots → Form
of_zero op o = Operate op 31 (Reg (reg o.rb)) (reg o.rc)

abbrev pub move_form : Slots → Option Number → Form
move_form o (Some (numbers.Immediate n)) = move_number n (reg o.rc)
move_form o _ = of_zero Bis o

abbrev pub entry_stmt : Slots → Option (List ℕ) → Stmt
entry_stmt o (Some label) = entry_label label o.offset
entry_stmt o None = entry_at (whole_in o.number)

-- the operation that a pseudo-operation of one register stands for, with R31 as its first source
abbrev pub operation_of : PseudoOp → Option Op
operation_of owns.Mov = Some Bis
operation_of owns.Not = Some Ornot
operation_of owns.Negl = Some Subl
operation_of owns.Negq = Some Subq
operation_of owns.NeglV = Some SublV
operation_of owns.NegqV = Some SubqV
operation_of owns.Sextl = Some Addl
operation_of pseudo_op = None

-- the instruction that a pseudo-operation, or `call_pal`, stands for
abbrev pub pseudo_form : PseudoOp → Slots → Option Form
pseudo_form owns.Mov o = Some (move_form o o.number)
pseudo_form owns.Clr o = Some (Operate Bis 31 (Reg 31) (reg o.rc))
pseudo_form owns.Nop o = Some (Operate Bis 31 (Reg 31) 31)
pseudo_form owns.Unop o = Some (Mem LdqU 31 30 (pos 0))
pseudo_form owns.CallPal o = Some (Pal (call_in o.number))
pseudo_form pseudo_op o = option_map (λ op. of_zero op o) (operation_of pseudo_op)

-- the statement of a directive; `list` is the text from the first operand to the end of the last
abbrev pub directive_stmt : PseudoOp → Slots → List ℕ → Stmt
directive_stmt owns.Byte o list = values 1 list
directive_stmt owns.Word o list = values 2 list
directive_stmt owns.Long o list = values 4 list
directive_stmt owns.Quad o list = values 8 list
directive_stmt owns.Ascii o list = text (unwrap_or o.text [])
directive_stmt owns.Zero o list = zero (zeroed_in o.number)
directive_stmt owns.Align o list = align (align_in o.number)
directive_stmt owns.Code o list = code_section
directive_stmt owns.Data o list = data_section
directive_stmt owns.Segment o list = segment (whole_in o.number)
directive_stmt owns.CodeBase o list = code_base (whole_in o.number)
directive_stmt owns.DataBase o list = data_base (whole_in o.number)
directive_stmt owns.Stack o list = stack (whole_in o.number)
directive_stmt owns.Entry o list = entry_stmt o o.label
directive_stmt owns.Level o list = level (level_in o.number)
directive_stmt _ o list = empty

-- the statement of a name beside the table
abbrev pub pseudo_op_stmt : Option Form → PseudoOp → Slots → List ℕ → Stmt
pseudo_op_stmt (Some insn) pseudo_op o list = code insn
pseudo_op_stmt None pseudo_op o list = directive_stmt pseudo_op o list

-- what a statement with this name and these operands says
abbrev pub stmt_by : Head → Slots → List ℕ → Stmt
stmt_by (heads.Insn m) o list = insn_stmt m o
stmt_by (heads.PseudoOp own) o list = pseudo_op_stmt (pseudo_form own o) own o list
