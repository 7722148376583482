use Rattle.std.proofs.Common.{◌≡◌, ℕ, List, Option, Some, sym, subst}
use Rattle.std.specs.Prelude.{IfSome}
use Rattle.alpha_words.specs.Regs.{put}
use Rattle.alpha_rows.specs.Meaning.{meaning_of, value_in}
use Rattle.alpha_rows.specs.Rows.{ExecutesRow}
use Rattle.alpha_rows.proofs.RowLaws.{ExecutesRow-operate}
use Rattle.alpha_rows.proofs.effects.operate.Goals as goal

pub returns-in-Some-clause-went : goal.returns-in-Some-clause-went
returns-in-Some-clause-went c = λ h mem.
    let a = c.args in
    let s = a.row.now in
    let v = c.in-Some.value in
    let is : Some v ≡ value_in a.level (meaning_of s.op) s a.regs.now =
    subst (λ (o : Option ℕ). IfSome o (λ x. Some x ≡ value_in a.level (meaning_of s.op) s a.regs.now)) c.in-Some.is
    c.requires.value in
    subst (λ (l : List ℕ). ExecutesRow a.image.now a.regs.now mem a.place.now l mem c.advance.new.place)
    (sym c.set.ensures.value)
    (subst (λ (n : ℕ). ExecutesRow a.image.now a.regs.now mem a.place.now (put a.regs.now s.c v) mem n)
    (sym c.advance.ensures)
    (ExecutesRow-operate a.level a.image.now a.regs.now mem a.place.now v s c.requires.level c.requires.row is))
