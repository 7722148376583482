use Rattle.std.proofs.Common.{◌≡◌, refl, sym, ap, subst, ◌∙◌}
use Rattle.std.specs.Int.{w16}
use Rattle.alpha_words.specs.Regs.{reg, put}
use Rattle.alpha_table.specs.declared.rows.MemRole.{MemRole}
use Rattle.alpha_table.specs.declared.form.Form.TheVariants.{Mem}
use Rattle.alpha_table.specs.Class.{Class, address}
use Rattle.alpha_table.specs.ClassOf.{class_of, memory_class}
use Rattle.alpha_values.specs.Numbers.{signed}
use Rattle.alpha_seq.specs.Executed.{row_access}
use Rattle.alpha_seq.specs.Step.{lda_value}
use Rattle.alpha_seq.specs.FastSteps.{ExecutesFast}
use Rattle.alpha_seq.proofs.FastStepLaws.{ExecutesFast-address, ExecutesFast-to}
use Rattle.alpha_rows.proofs.RowLaws.{ExecutesRow-access}
use Rattle.alpha_rows.proofs.effects.load_address.Goals as goal

pub returns-clause-went : goal.returns-clause-went
returns-clause-went c = λ mem.
    let a = c.args in
    let s = a.row.now in
    let d = signed w16 s.imm in
    let regs = a.regs.now in
    let image = a.image.now in
    let role : class_of (Mem a.op s.a s.b d) ≡ address a.op s.a s.b d =
    ap (λ (r : MemRole). memory_class r a.op (row_access a.op s.b d) s.a) c.requires.role in
    ExecutesRow-access a.op image regs c.set.new.self mem mem a.place.now c.advance.new.place s c.requires.row
    c.requires.meaning c.advance.ensures
    (subst (λ (class : Class). ExecutesFast image class regs mem a.place.now c.set.new.self mem c.advance.new.place)
    (sym role)
    (ExecutesFast-to image (address a.op s.a s.b d) regs mem a.place.now
    (put regs s.a (lda_value a.op (reg regs s.b) d)) c.set.new.self mem mem _ c.advance.new.place
    (c.set.ensures.value ∙ ap (put regs s.a) c.lda_value-value.ensures) refl c.advance.ensures
    (ExecutesFast-address a.op s.a s.b d regs mem a.place.now image)))
