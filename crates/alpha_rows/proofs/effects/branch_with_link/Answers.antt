use Rattle.std.proofs.Common.{◌≡◌, ℕ, ◌+◌, ◌*◌, ◌%◌, ◌^◌, sym, ap, subst, ◌∙◌}
use Rattle.alpha_rows.specs.Rows.{ExecutesRow}
use Rattle.alpha_rows.proofs.RowLaws.{ExecutesRow-link}
use Rattle.alpha_rows.proofs.effects.branch_with_link.Goals as goal

pub returns-clause-went : goal.returns-clause-went
returns-clause-went c = λ mem.
    let a = c.args in
    let p = a.image.now in
    let next = c.address_of.result in
    let is : next ≡ (p.code_base + 4 * ((a.place.now + 1) % 2 ^ 64)) % 2 ^ 64 =
    c.address_of.ensures ∙ ap (λ (n : ℕ). (p.code_base + 4 * n) % 2 ^ 64) c.advance.ensures in
    subst (λ (n : ℕ). ExecutesRow p a.regs.now mem a.place.now c.set.new.self mem n) (sym c.from.ensures)
    (ExecutesRow-link p a.regs.now c.set.new.self mem a.place.now next a.row.now c.requires.good c.requires.row
    c.requires.meaning is c.set.ensures.value)
