use Rattle.std.proofs.Common.{◌≡◌, true, false, sym, ap, ◌∙◌}
use Rattle.alpha_words.specs.Regs.{reg}
use Rattle.alpha_values.specs.Cond.{is_taken}
use Rattle.alpha_rows.proofs.RowLaws.{ExecutesRow-branch}
use Rattle.alpha_rows.proofs.effects.branch.Goals as goal

pub returns-then-taken-clause-went : goal.returns-then-taken-clause-went
returns-then-taken-clause-went c = λ mem.
    let a = c.args in
    let takes : is_taken a.condition (reg a.regs.now a.row.now.a) ≡ true =
    ap (is_taken a.condition) (sym c.get.ensures.value) ∙ (sym c.taken.ensures ∙ c.if-taken.true) in
    ExecutesRow-branch a.condition a.image.now a.regs.now mem a.place.now c.from.result true a.row.now c.requires.good
    c.requires.row c.requires.meaning takes c.from.ensures

pub returns-else-taken-clause-went : goal.returns-else-taken-clause-went
returns-else-taken-clause-went c = λ mem.
    let a = c.args in
    let takes : is_taken a.condition (reg a.regs.now a.row.now.a) ≡ false =
    ap (is_taken a.condition) (sym c.get.ensures.value) ∙ (sym c.taken.ensures ∙ c.if-taken.false) in
    ExecutesRow-branch a.condition a.image.now a.regs.now mem a.place.now c.advance.new.place false a.row.now
    c.requires.good c.requires.row c.requires.meaning takes c.advance.ensures
