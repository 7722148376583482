-- The classes of instructions that the machines and the checker tell apart.
use Rattle.std.specs.Prelude.{ℕ, ℤ, Option}
use Rattle.alpha_words.specs.declared.PalCall.{PalCall}
use Rattle.alpha_table.specs.declared.op.Op.{Op}
use Rattle.alpha_table.specs.declared.op.Cond.{Cond}
use Rattle.alpha_table.specs.declared.op.TrapOp.{TrapOp}
use Rattle.alpha_table.specs.declared.rows.MemOp.{MemOp}
use Rattle.alpha_table.specs.declared.rows.Extension.{Extension}
use Rattle.alpha_table.specs.declared.columns.MemAccess.{MemAccess}
use Rattle.alpha_table.specs.declared.form.Src.{Src}

-- An operate instruction without or with a trap on overflow, an address computed, a load, a store, a locked load, a
-- conditional store, a branch with its condition if it has one, a jump, a barrier with its PALcode call if it is one,
-- and what changes only the program counter.
pub data Class : Type 0 where
  operate : (op : Op) (ra : ℕ) (src : Src) (rc : ℕ) → Class
  trigger : (op : TrapOp) (ra : ℕ) (src : Src) (rc : ℕ) → Class
  address : (op : MemOp) (ra rb : ℕ) (disp : ℤ) → Class
  load : (extension : Extension) (at : MemAccess) (ra : ℕ) → Class
  store : (at : MemAccess) (ra : ℕ) → Class
  load_locked : (extension : Extension) (at : MemAccess) (ra : ℕ) → Class
  store_conditional : (at : MemAccess) (ra : ℕ) → Class
  branch : (condition : Option Cond) (ra : ℕ) (disp : ℤ) → Class
  jump : (ra rb : ℕ) → Class
  barrier : (call : Option PalCall) → Class
  idle : Class
