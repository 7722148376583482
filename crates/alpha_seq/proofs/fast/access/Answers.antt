use Rattle.std.proofs.Common.{ℤ, sym, subst}
use Rattle.std.specs.Int.{w16}
use Rattle.std.proofs.lemmas.Int.{to_z-of_z}
use Rattle.alpha_table.specs.declared.rows.MemOp.{MemOp}
use Rattle.alpha_table.specs.declared.rows.MemOp.TheVariants.{Lda, Ldah}
use Rattle.alpha_table.specs.declared.form.Form.TheVariants.{Mem}
use Rattle.alpha_table.specs.Class.{address}
use Rattle.alpha_table.specs.ClassOf.{class_of}
use Rattle.alpha_seq.specs.FastSteps.{ExecutesFast}
use Rattle.alpha_seq.proofs.fast.access.Goals as goal

pub returns-in-Lda-clause-went : goal.returns-in-Lda-clause-went
returns-in-Lda-clause-went c = λ h image.
    let a = c.args in
    let mem = a.memory.now in
    subst (λ (o : MemOp). ExecutesFast image
    (class_of (Mem o a.ra a.rb a.disp)) a.regs.now mem a.place.now c.load_address.new.regs mem c.load_address.new.place)
    (sym c.in-Lda.is)
    (subst (λ (d : ℤ). ExecutesFast image
    (address Lda a.ra a.rb d) a.regs.now mem a.place.now c.load_address.new.regs mem c.load_address.new.place)
    (to_z-of_z w16 a.disp c.ranges.disp)
    (c.load_address.ensures.went image mem))

pub returns-in-Ldah-clause-went : goal.returns-in-Ldah-clause-went
returns-in-Ldah-clause-went c = λ h image.
    let a = c.args in
    let mem = a.memory.now in
    subst (λ (o : MemOp). ExecutesFast image (class_of (Mem o a.ra a.rb a.disp)) a.regs.now
    mem a.place.now c.load_address-in-Ldah.new.regs mem c.load_address-in-Ldah.new.place)
    (sym c.in-Ldah.is)
    (subst (λ (d : ℤ). ExecutesFast image (address Ldah a.ra a.rb d) a.regs.now mem
    a.place.now c.load_address-in-Ldah.new.regs mem c.load_address-in-Ldah.new.place)
    (to_z-of_z w16 a.disp c.ranges.disp)
    (c.load_address-in-Ldah.ensures.went image mem))
