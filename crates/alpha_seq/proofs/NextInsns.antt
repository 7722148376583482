-- What a memory instruction would do: it is no barrier.
use Rattle.std.proofs.Common.{◌≡◌, ℕ, Bool, true, false, cond, eqb, refl}
use Rattle.alpha_table.specs.declared.columns.MemAccess.{MemAccess}
use Rattle.alpha_table.specs.declared.rows.MemOp.{MemOp}
use Rattle.alpha_table.specs.declared.rows.Extension.{Extension}
use Rattle.alpha_table.specs.declared.rows.MemRole.{MemRole}
use Rattle.alpha_table.specs.declared.rows.MemRole.TheVariants.{Address, Load, Store, LoadLocked, StoreConditional}
use Rattle.alpha_table.specs.declared.form.Form.{Form}
use Rattle.alpha_table.specs.Class.{load, idle}
use Rattle.alpha_table.specs.ClassOf.{memory_class}
use Rattle.alpha_seq.specs.State.{Event}
use Rattle.alpha_seq.specs.Next.{by_event, by_class}

by_class-load : (b : Bool) (extension : Extension) (at : MemAccess) (ra : ℕ) (i : Form) (event : Event)
    → by_class (cond b idle (load extension at ra)) i event ≡ by_event i event
by_class-load true extension at ra i event = refl
by_class-load false extension at ra i event = refl

pub by_class-memory : (role : MemRole) (op : MemOp) (at : MemAccess) (ra : ℕ) (i : Form) (event : Event)
    → by_class (memory_class role op at ra) i event ≡ by_event i event
by_class-memory Address op at ra i event = refl
by_class-memory (Load extension) op at ra i event = by_class-load (eqb ra 31) extension at ra i event
by_class-memory Store op at ra i event = refl
by_class-memory (LoadLocked extension) op at ra i event = refl
by_class-memory StoreConditional op at ra i event = refl
