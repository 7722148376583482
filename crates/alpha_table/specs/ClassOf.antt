-- The class of an instruction. That of a word is in Words.antt, and a law says that they agree.
use Rattle.std.specs.Prelude.{ℕ, None, Some, ◌==◌, if◌then◌else◌}
use Rattle.alpha_table.specs.declared.op.Op.{Op}
use Rattle.alpha_table.specs.declared.op.OpRole.{OpRole}
use Rattle.alpha_table.specs.declared.op.OpRole.TheVariants.{Plain, Move, Trap}
use Rattle.alpha_table.specs.declared.rows.MemOp.{MemOp}
use Rattle.alpha_table.specs.declared.rows.MemRole.{MemRole}
use Rattle.alpha_table.specs.declared.rows.MemRole.TheVariants.{Address, Load, Store, LoadLocked, StoreConditional}
use Rattle.alpha_table.specs.declared.columns.MemAccess.{MemAccess}
use Rattle.alpha_table.specs.declared.form.Src.{Src}
use Rattle.alpha_table.specs.declared.form.Form.{Form}
use Rattle.alpha_table.specs.declared.form.Form.TheVariants.{Mem, Branch, Jump, Operate, Misc, Fetch, Pal}
use Rattle.alpha_table.specs.Op.{op_row}
use Rattle.alpha_table.specs.Rows.{mem_row, branch_row, misc_row}
use Rattle.alpha_table.specs.Class.{Class, operate, trigger, address, load, store, load_locked, store_conditional}
use Rattle.alpha_table.specs.Class.{branch, jump, barrier, idle}

abbrev pub operate_class : OpRole → Op → ℕ → Src → ℕ → Class
operate_class Plain op ra src rc = operate op ra src rc
operate_class Move op ra src rc = operate op ra src rc
operate_class (Trap trap) op ra src rc = trigger trap ra src rc

-- a load into R31 makes no access, but for the locked ones
abbrev pub memory_class : MemRole → MemOp → MemAccess → ℕ → Class
memory_class Address op at ra = address op ra at.base at.disp
memory_class (Load extension) op at ra = if ra == 31 then idle else load extension at ra
memory_class Store op at ra = store at ra
memory_class (LoadLocked extension) op at ra = load_locked extension at ra
memory_class StoreConditional op at ra = store_conditional at ra

abbrev pub class_of : Form → Class
class_of (Mem op ra rb disp) =
    memory_class (mem_row op).role op
    (record { base = rb; disp = disp; bytes = (mem_row op).bytes; clears = (mem_row op).clears }) ra
class_of (Branch op ra disp) = branch (branch_row op).condition ra disp
class_of (Jump kind ra rb hint) = jump ra rb
class_of (Operate op ra src rc) = operate_class (op_row op).role op ra src rc
class_of (Misc op) = if (misc_row op).reports then barrier None else idle
class_of (Fetch modify rb) = idle
class_of (Pal call) = barrier (Some call)
