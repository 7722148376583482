use Rattle.std.proofs.Common.{◌≡◌, ℕ, None, refl, sym, ap, subst, ◌∙◌}
use Rattle.std.specs.Int.{w16}
use Rattle.alpha_words.specs.Regs.{reg}
use Rattle.alpha_words.specs.Digits.{low_bytes}
use Rattle.alpha_table.specs.declared.rows.MemRole.{MemRole}
use Rattle.alpha_table.specs.declared.rows.MemRow.{MemRow}
use Rattle.alpha_table.specs.declared.columns.MemAccess.{MemAccess}
use Rattle.alpha_table.specs.declared.form.Form.TheVariants.{Mem}
use Rattle.alpha_table.specs.Class.{Class, store}
use Rattle.alpha_table.specs.ClassOf.{class_of, memory_class}
use Rattle.alpha_values.specs.Numbers.{signed}
use Rattle.alpha_values.specs.Address.{access_address}
use Rattle.alpha_mem.specs.Intent.{Store}
use Rattle.alpha_mem.specs.Block.{shapes}
use Rattle.alpha_mem.specs.Fault.{fault_of}
use Rattle.alpha_mem.specs.Memory.{write_bytes}
use Rattle.alpha_seq.specs.Executed.{row_access}
use Rattle.alpha_seq.specs.FastSteps.{ExecutesFast}
use Rattle.alpha_seq.proofs.FastStepLaws.{ExecutesFast-store, ExecutesFast-to}
use Rattle.alpha_rows.proofs.RowLaws.{ExecutesRow-access}
use Rattle.alpha_rows.proofs.effects.store.Goals as goal

pub returns-then-store_in-clause-went : goal.returns-then-store_in-clause-went
returns-then-store_in-clause-went c = λ h.
    let a = c.args in
    let s = a.row.now in
    let at : MemAccess = row_access a.op s.b (signed w16 s.imm) in
    let regs = a.regs.now in
    let mem = a.regions.now in
    let image = a.image.now in
    let new = c.store_in.new.regions in
    let done = c.if-store_in.true in
    let addr = c.access_address-addr.result in
    let there : addr ≡ access_address at (reg regs s.b) =
    c.access_address-addr.ensures ∙ (ap (λ (x : MemAccess). access_address x c.get.result) c.access_in-at.ensures
    ∙ ap (access_address at) c.get.ensures.value) in
    let bytes = c.size.ensures ∙ ap (λ (r : MemRow). r.bytes) c.row.ensures in
    let calm : fault_of (shapes mem) Store addr at.bytes ≡ None = ap (fault_of (shapes mem) Store addr) (sym bytes)
    ∙ c.store_in.ensures.fault done in
    let is : new ≡ write_bytes mem addr (low_bytes at.bytes (reg regs s.a)) =
    c.store_in.ensures.value done
    ∙ (ap (λ (k : ℕ). write_bytes mem addr (low_bytes k c.get-2.result)) bytes
    ∙ ap (λ (v : ℕ). write_bytes mem addr (low_bytes at.bytes v)) c.get-2.ensures.value) in
    let role : class_of (Mem a.op s.a s.b (signed w16 s.imm)) ≡ store at s.a =
    ap (λ (r : MemRole). memory_class r a.op at s.a) c.requires.role in
    ExecutesRow-access a.op image regs regs mem new a.place.now c.advance.new.place s c.requires.row c.requires.meaning
    c.advance.ensures
    (subst (λ (class : Class). ExecutesFast image class regs mem a.place.now regs new c.advance.new.place) (sym role)
    (ExecutesFast-to image (store at s.a) regs mem a.place.now regs regs new new _ c.advance.new.place refl refl
    c.advance.ensures
    (ExecutesFast-store at s.a regs mem new a.place.now addr image there calm is)))
