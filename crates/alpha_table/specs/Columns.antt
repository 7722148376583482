-- The columns of the instruction table by instruction: those of its class, the operation that traps, and the least
-- level.
use Rattle.std.specs.Prelude.{ℕ, Bool, Option, Some, None}
use Rattle.std.specs.Option.{option_map}
use Rattle.alpha_words.specs.declared.Level.{Level}
use Rattle.alpha_words.specs.declared.Level.TheVariants.{One}
use Rattle.alpha_table.specs.declared.op.TrapOp.{TrapOp}
use Rattle.alpha_table.specs.declared.columns.InsnKind.{InsnKind}
use Rattle.alpha_table.specs.declared.columns.MemAccess.{MemAccess}
use Rattle.alpha_table.specs.declared.columns.ByteSpan.{ByteSpan}
use Rattle.alpha_table.specs.declared.form.Form.{Form}
use Rattle.alpha_table.specs.declared.form.Form.TheVariants.{Operate}
use Rattle.alpha_table.specs.Op.{op_row}
use Rattle.alpha_table.specs.Class.{Class, trigger}
use Rattle.alpha_table.specs.ClassOf.{class_of}
use Rattle.alpha_table.specs.Code.{class_kind}
use Rattle.alpha_table.specs.Uses.{sources, written_register, counts, but_zero, class_access}
use Rattle.alpha_table.specs.Spans.{bytes_spanned}

-- whether an instruction uses a register
abbrev pub uses_of : Form → ℕ → Bool
uses_of i r = counts (sources (class_of i)) r

-- the register that an instruction sets
abbrev pub sets_of : Form → Option ℕ
sets_of i = but_zero (written_register (class_of i))

abbrev pub kind_of : Form → InsnKind
kind_of i = class_kind (class_of i)

abbrev pub access_of : Form → Option MemAccess
access_of i = class_access (class_of i)

abbrev pub span_of : Form → Option ByteSpan
span_of i = option_map bytes_spanned (access_of i)

abbrev pub class_trap : Class → Option TrapOp
class_trap (trigger op ra src rc) = Some op
class_trap class = None

abbrev pub trap_op_of : Form → Option TrapOp
trap_op_of i = class_trap (class_of i)

-- the least level whose implementations have the instruction
abbrev pub level_of : Form → Level
level_of (Operate op ra src rc) = (op_row op).level
level_of _ = One
