use Rattle.std.proofs.Common.{◌≡◌, ℕ, refl, ap, ◌∙◌}
use Rattle.std.specs.Int.{w16}
use Rattle.std.proofs.lemmas.Int.{to_z-of_z}
use Rattle.alpha_words.specs.Regs.{reg, put}
use Rattle.alpha_table.specs.Class.{address}
use Rattle.alpha_seq.specs.Step.{lda_value}
use Rattle.alpha_seq.proofs.FastStepLaws.{ExecutesFast-address, ExecutesFast-to}
use Rattle.alpha_seq.proofs.fast.load_address.Goals as goal

pub returns-clause-went : goal.returns-clause-went
returns-clause-went c = λ image mem.
    let a = c.args in
    let regs = a.regs.now in
    let value : c.lda_value-value.result ≡ lda_value a.op (reg regs a.rb) a.disp = c.lda_value-value.ensures
    ∙ (ap (lda_value a.op c.get.result) (to_z-of_z w16 a.disp c.ranges.disp)
    ∙ ap (λ (b : ℕ). lda_value a.op b a.disp) c.get.ensures.value) in
    ExecutesFast-to image
    (address a.op a.ra a.rb a.disp) regs mem a.place.now _ c.set.new.regs mem mem _ c.set.new.place
    (c.set.ensures.regs ∙ ap (put regs a.ra) value) refl c.set.ensures.place
    (ExecutesFast-address a.op a.ra a.rb a.disp regs mem a.place.now image)
