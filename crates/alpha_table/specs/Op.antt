-- The operate instructions.
use Rattle.std.specs.Prelude.{ℕ, Option, Some, None, List}
use Prim.Native.String.{String}
use Rattle.alpha_words.specs.declared.Level.{Level}
use Rattle.alpha_words.specs.declared.Level.TheVariants as levels
use Rattle.alpha_table.specs.declared.op.Op.{Op}
use Rattle.alpha_table.specs.declared.op.Op.TheVariants as ops
use Rattle.alpha_table.specs.declared.op.OpRole.{OpRole}
use Rattle.alpha_table.specs.declared.op.OpRole.TheVariants.{Plain, Move, Trap}
use Rattle.alpha_table.specs.declared.op.OperandRule.{OperandRule}
use Rattle.alpha_table.specs.declared.op.OperandRule.TheVariants.{Any, Unary, UnaryRegister, Version}
use Rattle.alpha_table.specs.declared.op.OpRow.{OpRow}
use Rattle.alpha_table.specs.declared.op.TrapOp.{TrapOp}
use Rattle.alpha_table.specs.declared.op.TrapOp.TheVariants as traps
use Rattle.alpha_table.specs.Entry.{Entry, entry}

abbrev pub operate : String → ℕ → ℕ → OpRole → OperandRule → Level → Entry OpRow
operate name opcode function role operands level =
    entry name (record { opcode = opcode; function = function; role = role; operands = operands; level = level })

-- The name, the opcode, the function, how it treats its destination, which operands it takes, and the least level that
-- has it.
abbrev pub op_entry : Op → Entry OpRow
op_entry ops.Addl = operate "addl" 0x10 0x00 Plain Any levels.One
op_entry ops.S4addl = operate "s4addl" 0x10 0x02 Plain Any levels.One
op_entry ops.Subl = operate "subl" 0x10 0x09 Plain Any levels.One
op_entry ops.S4subl = operate "s4subl" 0x10 0x0b Plain Any levels.One
op_entry ops.Cmpbge = operate "cmpbge" 0x10 0x0f Plain Any levels.One
op_entry ops.S8addl = operate "s8addl" 0x10 0x12 Plain Any levels.One
op_entry ops.S8subl = operate "s8subl" 0x10 0x1b Plain Any levels.One
op_entry ops.Cmpult = operate "cmpult" 0x10 0x1d Plain Any levels.One
op_entry ops.Addq = operate "addq" 0x10 0x20 Plain Any levels.One
op_entry ops.S4addq = operate "s4addq" 0x10 0x22 Plain Any levels.One
op_entry ops.Subq = operate "subq" 0x10 0x29 Plain Any levels.One
op_entry ops.S4subq = operate "s4subq" 0x10 0x2b Plain Any levels.One
op_entry ops.Cmpeq = operate "cmpeq" 0x10 0x2d Plain Any levels.One
op_entry ops.S8addq = operate "s8addq" 0x10 0x32 Plain Any levels.One
op_entry ops.S8subq = operate "s8subq" 0x10 0x3b Plain Any levels.One
op_entry ops.Cmpule = operate "cmpule" 0x10 0x3d Plain Any levels.One
op_entry ops.AddlV = operate "addl/v" 0x10 0x40 (Trap traps.AddlV) Any levels.One
op_entry ops.SublV = operate "subl/v" 0x10 0x49 (Trap traps.SublV) Any levels.One
op_entry ops.Cmplt = operate "cmplt" 0x10 0x4d Plain Any levels.One
op_entry ops.AddqV = operate "addq/v" 0x10 0x60 (Trap traps.AddqV) Any levels.One
op_entry ops.SubqV = operate "subq/v" 0x10 0x69 (Trap traps.SubqV) Any levels.One
op_entry ops.Cmple = operate "cmple" 0x10 0x6d Plain Any levels.One
op_entry ops.And = operate "and" 0x11 0x00 Plain Any levels.One
op_entry ops.Bic = operate "bic" 0x11 0x08 Plain Any levels.One
op_entry ops.Cmovlbs = operate "cmovlbs" 0x11 0x14 Move Any levels.One
op_entry ops.Cmovlbc = operate "cmovlbc" 0x11 0x16 Move Any levels.One
op_entry ops.Bis = operate "bis" 0x11 0x20 Plain Any levels.One
op_entry ops.Cmoveq = operate "cmoveq" 0x11 0x24 Move Any levels.One
op_entry ops.Cmovne = operate "cmovne" 0x11 0x26 Move Any levels.One
op_entry ops.Ornot = operate "ornot" 0x11 0x28 Plain Any levels.One
op_entry ops.Xor = operate "xor" 0x11 0x40 Plain Any levels.One
op_entry ops.Cmovlt = operate "cmovlt" 0x11 0x44 Move Any levels.One
op_entry ops.Cmovge = operate "cmovge" 0x11 0x46 Move Any levels.One
op_entry ops.Eqv = operate "eqv" 0x11 0x48 Plain Any levels.One
op_entry ops.Amask = operate "amask" 0x11 0x61 Plain Unary levels.One
op_entry ops.Cmovle = operate "cmovle" 0x11 0x64 Move Any levels.One
op_entry ops.Cmovgt = operate "cmovgt" 0x11 0x66 Move Any levels.One
op_entry ops.Implver = operate "implver" 0x11 0x6c Plain Version levels.One
op_entry ops.Mskbl = operate "mskbl" 0x12 0x02 Plain Any levels.One
op_entry ops.Extbl = operate "extbl" 0x12 0x06 Plain Any levels.One
op_entry ops.Insbl = operate "insbl" 0x12 0x0b Plain Any levels.One
op_entry ops.Mskwl = operate "mskwl" 0x12 0x12 Plain Any levels.One
op_entry ops.Extwl = operate "extwl" 0x12 0x16 Plain Any levels.One
op_entry ops.Inswl = operate "inswl" 0x12 0x1b Plain Any levels.One
op_entry ops.Mskll = operate "mskll" 0x12 0x22 Plain Any levels.One
op_entry ops.Extll = operate "extll" 0x12 0x26 Plain Any levels.One
op_entry ops.Insll = operate "insll" 0x12 0x2b Plain Any levels.One
op_entry ops.Zap = operate "zap" 0x12 0x30 Plain Any levels.One
op_entry ops.Zapnot = operate "zapnot" 0x12 0x31 Plain Any levels.One
op_entry ops.Mskql = operate "mskql" 0x12 0x32 Plain Any levels.One
op_entry ops.Srl = operate "srl" 0x12 0x34 Plain Any levels.One
op_entry ops.Extql = operate "extql" 0x12 0x36 Plain Any levels.One
op_entry ops.Sll = operate "sll" 0x12 0x39 Plain Any levels.One
op_entry ops.Insql = operate "insql" 0x12 0x3b Plain Any levels.One
op_entry ops.Sra = operate "sra" 0x12 0x3c Plain Any levels.One
op_entry ops.Mskwh = operate "mskwh" 0x12 0x52 Plain Any levels.One
op_entry ops.Inswh = operate "inswh" 0x12 0x57 Plain Any levels.One
op_entry ops.Extwh = operate "extwh" 0x12 0x5a Plain Any levels.One
op_entry ops.Msklh = operate "msklh" 0x12 0x62 Plain Any levels.One
op_entry ops.Inslh = operate "inslh" 0x12 0x67 Plain Any levels.One
op_entry ops.Extlh = operate "extlh" 0x12 0x6a Plain Any levels.One
op_entry ops.Mskqh = operate "mskqh" 0x12 0x72 Plain Any levels.One
op_entry ops.Insqh = operate "insqh" 0x12 0x77 Plain Any levels.One
op_entry ops.Extqh = operate "extqh" 0x12 0x7a Plain Any levels.One
op_entry ops.Mull = operate "mull" 0x13 0x00 Plain Any levels.One
op_entry ops.Mulq = operate "mulq" 0x13 0x20 Plain Any levels.One
op_entry ops.Umulh = operate "umulh" 0x13 0x30 Plain Any levels.One
op_entry ops.MullV = operate "mull/v" 0x13 0x40 (Trap traps.MullV) Any levels.One
op_entry ops.MulqV = operate "mulq/v" 0x13 0x60 (Trap traps.MulqV) Any levels.One
op_entry ops.Sextb = operate "sextb" 0x1c 0x00 Plain Unary levels.One
op_entry ops.Sextw = operate "sextw" 0x1c 0x01 Plain Unary levels.One
op_entry ops.Ctpop = operate "ctpop" 0x1c 0x30 Plain UnaryRegister levels.Two
op_entry ops.Ctlz = operate "ctlz" 0x1c 0x32 Plain UnaryRegister levels.Two
op_entry ops.Cttz = operate "cttz" 0x1c 0x33 Plain UnaryRegister levels.Two

abbrev pub op_row : Op → OpRow
op_row op = (op_entry op).row

abbrev pub op_name : Op → List ℕ
op_name op = (op_entry op).name

abbrev pub role_trap : OpRole → Option TrapOp
role_trap Plain = None
role_trap Move = None
role_trap (Trap op) = Some op

-- the operation that traps, of a row with `/V`
abbrev pub trap_of : Op → Option TrapOp
trap_of op = role_trap (op_row op).role
