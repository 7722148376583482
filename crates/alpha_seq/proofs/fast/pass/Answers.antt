use Rattle.std.proofs.Common.{◌≡◌, ℤ, ap, subst, ◌∙◌, arith}
use Rattle.std.specs.Int.{w16, w32, cast_signed, cast_unsigned}
use Rattle.std.proofs.lemmas.Int.{to_z-of_z}
use Rattle.alpha_table.specs.declared.form.Form.{Form}
use Rattle.alpha_table.specs.declared.form.Form.TheVariants.{Mem, Branch}
use Rattle.alpha_table.specs.ClassOf.{class_of}
use Rattle.alpha_seq.specs.FastSteps.{ExecutesFast}
use Rattle.alpha_seq.proofs.fast.pass.Goals as goal

pub returns-in-Mem-clause-went : goal.returns-in-Mem-clause-went
returns-in-Mem-clause-went c = λ h.
    let i = c.in-Mem in
    let a = c.args in
    let passed : ℤ = cast_signed w16 (cast_unsigned w16 i.disp) in
    let same : passed ≡ i.disp = grind (arith, to_z-of_z) in
    subst (λ (f : Form). ExecutesFast a.image.now
    (class_of f) a.regs.now a.memory.now a.place.now c.access.new.regs c.access.new.memory c.access.new.place)
    (ap (λ (d : ℤ). Mem i.op i.ra i.rb d) same ∙ i.ensures.value)
    (c.access.ensures.went h a.image.now)

pub returns-in-Branch-clause-went : goal.returns-in-Branch-clause-went
returns-in-Branch-clause-went c = λ h.
    let i = c.in-Branch in
    let a = c.args in
    let passed : ℤ = cast_signed w32 (cast_unsigned w32 i.disp) in
    let same : passed ≡ i.disp = grind (arith, to_z-of_z) in
    subst (λ (f : Form). ExecutesFast a.image.now
    (class_of f) a.regs.now a.memory.now a.place.now c.branch-image.new.regs a.memory.now c.branch-image.new.place)
    (ap (λ (d : ℤ). Branch i.op i.ra d) same ∙ i.ensures.value)
    (c.branch-image.ensures a.memory.now)
