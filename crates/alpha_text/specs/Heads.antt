-- What the names of statements stand for.
use Rattle.std.specs.Prelude.{ℕ, true, false, List, [], ◌∷◌, ◌++◌, map, find, codes, Option}
use Rattle.std.specs.Option.{option_map, option_or}
use Rattle.std.specs.Str.{bytes_eq}
use Rattle.alpha_table.specs.declared.names.Mnemonic.{Mnemonic}
use Rattle.alpha_table.specs.declared.names.Mnemonic.TheVariants as mnemonics
use Rattle.alpha_table.specs.declared.op.OperandRule.{OperandRule}
use Rattle.alpha_table.specs.declared.op.OperandRule.TheVariants.{Any, Unary, UnaryRegister, Version}
use Rattle.alpha_table.specs.declared.rows.BranchOp.{BranchOp}
use Rattle.alpha_table.specs.declared.rows.BranchOp.TheVariants.{Br, Bsr}
use Rattle.alpha_table.specs.declared.rows.JumpKind.{JumpKind}
use Rattle.alpha_table.specs.declared.rows.JumpKind.TheVariants.{Ret}
use Rattle.alpha_table.specs.Op.{op_row}
use Rattle.alpha_table.specs.Names.{name_of}
use Rattle.alpha_table.specs.Decoded.{every_op, every_mem, every_branch, every_jump, every_misc, every_pal}
use Rattle.alpha_operands.specs.declared.shape.Shape.{Shape}
use Rattle.alpha_operands.specs.declared.shape.Shape.TheVariants as shapes
use Rattle.alpha_text.specs.declared.head.PseudoOp.{PseudoOp}
use Rattle.alpha_text.specs.declared.head.PseudoOp.TheVariants as owns
use Rattle.alpha_text.specs.declared.head.Head.{Head}
use Rattle.alpha_text.specs.declared.head.Head.TheVariants as heads

-- the names beside the instruction table
abbrev pub pseudo_op_name : PseudoOp → List ℕ
pseudo_op_name owns.Byte = codes ".byte"
pseudo_op_name owns.Word = codes ".word"
pseudo_op_name owns.Long = codes ".long"
pseudo_op_name owns.Quad = codes ".quad"
pseudo_op_name owns.Ascii = codes ".ascii"
pseudo_op_name owns.Zero = codes ".zero"
pseudo_op_name owns.Align = codes ".align"
pseudo_op_name owns.Code = codes ".code"
pseudo_op_name owns.Data = codes ".data"
pseudo_op_name owns.Segment = codes ".segment"
pseudo_op_name owns.CodeBase = codes ".codebase"
pseudo_op_name owns.DataBase = codes ".database"
pseudo_op_name owns.Stack = codes ".stack"
pseudo_op_name owns.Entry = codes ".entry"
pseudo_op_name owns.Level = codes ".level"
pseudo_op_name owns.Mov = codes "mov"
pseudo_op_name owns.Clr = codes "clr"
pseudo_op_name owns.Nop = codes "nop"
pseudo_op_name owns.Unop = codes "unop"
pseudo_op_name owns.Not = codes "not"
pseudo_op_name owns.Negl = codes "negl"
pseudo_op_name owns.Negq = codes "negq"
pseudo_op_name owns.NeglV = codes "negl/v"
pseudo_op_name owns.NegqV = codes "negq/v"
pseudo_op_name owns.Sextl = codes "sextl"
pseudo_op_name owns.CallPal = codes "call_pal"

-- the shape of what stands behind each
abbrev pub pseudo_op_shape : PseudoOp → Shape
pseudo_op_shape owns.Byte = shapes.Bytes
pseudo_op_shape owns.Word = shapes.Words
pseudo_op_shape owns.Long = shapes.Longs
pseudo_op_shape owns.Quad = shapes.Quads
pseudo_op_shape owns.Ascii = shapes.Text
pseudo_op_shape owns.Zero = shapes.Zeroed
pseudo_op_shape owns.Align = shapes.Align
pseudo_op_shape owns.Code = shapes.Alone
pseudo_op_shape owns.Data = shapes.Alone
pseudo_op_shape owns.Segment = shapes.Field
pseudo_op_shape owns.CodeBase = shapes.Field
pseudo_op_shape owns.DataBase = shapes.Field
pseudo_op_shape owns.Stack = shapes.Field
pseudo_op_shape owns.Entry = shapes.Entry
pseudo_op_shape owns.Level = shapes.Level
pseudo_op_shape owns.Mov = shapes.Move
pseudo_op_shape owns.Clr = shapes.Single
pseudo_op_shape owns.Nop = shapes.Alone
pseudo_op_shape owns.Unop = shapes.Alone
pseudo_op_shape owns.Not = shapes.Pair
pseudo_op_shape owns.Negl = shapes.Pair
pseudo_op_shape owns.Negq = shapes.Pair
pseudo_op_shape owns.NeglV = shapes.Pair
pseudo_op_shape owns.NegqV = shapes.Pair
pseudo_op_shape owns.Sextl = shapes.Pair
pseudo_op_shape owns.CallPal = shapes.CallPal

unfoldable pub every_pseudo_op : List PseudoOp
every_pseudo_op =
    owns.Byte ∷ owns.Word ∷ owns.Long ∷ owns.Quad ∷ owns.Ascii ∷ owns.Zero ∷ owns.Align ∷ owns.Code ∷ owns.Data
    ∷ owns.Segment ∷ owns.CodeBase ∷ owns.DataBase ∷ owns.Stack ∷ owns.Entry ∷ owns.Level ∷ owns.Mov ∷ owns.Clr
    ∷ owns.Nop ∷ owns.Unop ∷ owns.Not ∷ owns.Negl ∷ owns.Negq ∷ owns.NeglV ∷ owns.NegqV ∷ owns.Sextl ∷ owns.CallPal ∷ []

-- the one of a name
abbrev pub pseudo_op_at : List ℕ → Option PseudoOp
pseudo_op_at name = find (λ o. bytes_eq (pseudo_op_name o) name) every_pseudo_op

-- every row of the instruction table
unfoldable pub every_mnemonic : List Mnemonic
every_mnemonic =
    map mnemonics.Operate every_op
    ++ (map mnemonics.Mem every_mem
    ++ (map mnemonics.Branch every_branch ++ (map mnemonics.Jump every_jump ++ (map mnemonics.Misc every_misc ++
    (mnemonics.Fetch false ∷ mnemonics.Fetch true ∷ map mnemonics.Pal every_pal)))))

abbrev pub mnemonic_at : List ℕ → Option Mnemonic
mnemonic_at name = find (λ m. bytes_eq (name_of m) name) every_mnemonic

-- what a name stands for
unfoldable pub head_of : List ℕ → Option Head
head_of name = option_or (option_map heads.Insn (mnemonic_at name)) (option_map heads.PseudoOp (pseudo_op_at name))

abbrev pub operate_shape : OperandRule → Shape
operate_shape Any = shapes.Operate
operate_shape Unary = shapes.Unary
operate_shape UnaryRegister = shapes.Pair
operate_shape Version = shapes.Single

abbrev pub branch_shape : BranchOp → Shape
branch_shape Br = shapes.Call
branch_shape Bsr = shapes.Call
branch_shape _ = shapes.Branch

abbrev pub jump_shape : JumpKind → Shape
jump_shape Ret = shapes.Return
jump_shape _ = shapes.Jump

-- the shape of what stands behind a name
abbrev pub shape_of : Head → Shape
shape_of (heads.Insn (mnemonics.Mem op)) = shapes.Memory
shape_of (heads.Insn (mnemonics.Branch op)) = branch_shape op
shape_of (heads.Insn (mnemonics.Jump kind)) = jump_shape kind
shape_of (heads.Insn (mnemonics.Operate op)) = operate_shape (op_row op).operands
shape_of (heads.Insn (mnemonics.Misc op)) = shapes.Alone
shape_of (heads.Insn (mnemonics.Fetch modify)) = shapes.Prefetch
shape_of (heads.Insn (mnemonics.Pal call)) = shapes.Alone
shape_of (heads.PseudoOp pseudo_op) = pseudo_op_shape pseudo_op

-- the name of each
abbrev pub head_name : Head → List ℕ
head_name (heads.Insn m) = name_of m
head_name (heads.PseudoOp pseudo_op) = pseudo_op_name pseudo_op
