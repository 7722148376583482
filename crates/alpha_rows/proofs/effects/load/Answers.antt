use Rattle.std.proofs.Common.{◌≡◌, ℕ, cond, eqb, None, refl, sym, ap, subst, ◌∙◌}
use Rattle.std.specs.Int.{w16}
use Rattle.alpha_words.specs.Regs.{reg, put}
use Rattle.alpha_words.specs.Digits.{little}
use Rattle.alpha_table.specs.declared.rows.MemRole.{MemRole}
use Rattle.alpha_table.specs.declared.rows.MemRow.{MemRow}
use Rattle.alpha_table.specs.declared.columns.MemAccess.{MemAccess}
use Rattle.alpha_table.specs.declared.form.Form.TheVariants.{Mem}
use Rattle.alpha_table.specs.Class.{Class, load, idle}
use Rattle.alpha_table.specs.ClassOf.{class_of, memory_class}
use Rattle.alpha_values.specs.Numbers.{signed}
use Rattle.alpha_values.specs.Address.{access_address}
use Rattle.alpha_mem.specs.Intent.{Load}
use Rattle.alpha_mem.specs.Block.{shapes}
use Rattle.alpha_mem.specs.Fault.{fault_of}
use Rattle.alpha_mem.specs.Memory.{bytes_at}
use Rattle.alpha_seq.specs.Executed.{filled, row_access}
use Rattle.alpha_seq.specs.FastSteps.{ExecutesFast}
use Rattle.alpha_seq.proofs.FastStepLaws.{ExecutesFast-load, ExecutesFast-to}
use Rattle.alpha_rows.proofs.RowLaws.{ExecutesRow-access}
use Rattle.alpha_rows.proofs.effects.load.Goals as goal

pub returns-in-Some-clause-went : goal.returns-in-Some-clause-went
returns-in-Some-clause-went c = λ h.
    let a = c.args in
    let s = a.row.now in
    let at : MemAccess = row_access a.op s.b (signed w16 s.imm) in
    let regs = a.regs.now in
    let mem = a.regions.now in
    let image = a.image.now in
    let addr = c.access_address-addr.result in
    let n = c.in-Some.number in
    let there : addr ≡ access_address at (reg regs s.b) = c.access_address-addr.ensures
    ∙ (ap (λ (x : MemAccess). access_address x c.get.result) c.access_in-at.ensures
    ∙ ap (access_address at) c.get.ensures.value) in
    let bytes = c.size.ensures ∙ ap (λ (r : MemRow). r.bytes) c.row.ensures in
    let calm : fault_of (shapes mem) Load addr at.bytes ≡ None =
    ap (fault_of (shapes mem) Load addr) (sym bytes) ∙ c.in-Some.ensures.fault in
    let is : n ≡ little (bytes_at mem addr at.bytes) =
    c.in-Some.ensures.value ∙ ap (λ (k : ℕ). little (bytes_at mem addr k)) bytes in
    let role : class_of (Mem a.op s.a s.b (signed w16 s.imm)) ≡ cond (eqb s.a 31) idle (load a.extension at s.a) =
    ap (λ (r : MemRole). memory_class r a.op at s.a) c.requires.role in
    ExecutesRow-access a.op image regs c.set.new.self mem mem a.place.now c.advance.new.place s c.requires.row
    c.requires.meaning c.advance.ensures
    (subst (λ (class : Class). ExecutesFast image class regs mem a.place.now c.set.new.self mem c.advance.new.place)
    (sym role)
    (ExecutesFast-to image (cond (eqb s.a 31) idle (load a.extension at s.a)) regs mem a.place.now
    (put regs s.a (filled a.extension n)) c.set.new.self mem mem _ c.advance.new.place
    (c.set.ensures.value ∙ ap (put regs s.a) c.extend.ensures) refl c.advance.ensures
    (ExecutesFast-load a.extension at s.a regs mem a.place.now addr n image there calm is)))
