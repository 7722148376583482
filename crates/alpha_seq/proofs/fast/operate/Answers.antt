use Rattle.std.proofs.Common.{◌≡◌, ℕ, Some, refl, sym, ap, ◌∙◌}
use Rattle.alpha_words.specs.Regs.{reg, put}
use Rattle.alpha_table.specs.ClassOf.{class_of}
use Rattle.alpha_table.specs.declared.form.Form.TheVariants.{Operate}
use Rattle.alpha_values.specs.Source.{source_value}
use Rattle.alpha_values.specs.Outcome.{outcome_of}
use Rattle.alpha_seq.proofs.FastStepLaws.{ExecutesFast-operate, ExecutesFast-to}
use Rattle.alpha_seq.proofs.fast.operate.Goals as goal

pub returns-in-Some-clause-went : goal.returns-in-Some-clause-went
returns-in-Some-clause-went c = λ h image mem levels.
    let a = c.args in
    let regs = a.regs.now in
    let v = c.in-Some.value in
    let is : Some v ≡ outcome_of a.level a.op (reg regs a.ra) (source_value regs a.src.now) (reg regs a.rc) =
    sym c.in-Some.is ∙ (c.outcome.ensures
    ∙ (ap (λ (x : ℕ). outcome_of a.level a.op x c.source-b.result c.get-old.result) c.get-a.ensures.value
    ∙ (ap (λ (x : ℕ). outcome_of a.level a.op (reg regs a.ra) x c.get-old.result) c.source-b.ensures
    ∙ ap (λ (x : ℕ). outcome_of a.level a.op (reg regs a.ra) (source_value regs a.src.now) x)
    c.get-old.ensures.value))) in
    ExecutesFast-to image (class_of (Operate a.op a.ra a.src.now a.rc)) regs mem a.place.now
    (put regs a.rc v) c.set.new.regs mem mem _ c.set.new.place c.set.ensures.regs refl c.set.ensures.place
    (ExecutesFast-operate a.level a.op a.ra a.src.now a.rc regs mem a.place.now v image is levels)
