use Rattle.std.proofs.Common.{◌≡◌, ◌≤◌, ◌<◌, ℕ, length, ◌+◌, ◌-◌, ◌*◌, ◌/◌, ◌%◌, ◌^◌, ap, ◌∙◌, arith}
use Rattle.alpha_words.specs.Regs.{reg}
use Rattle.alpha_rows.proofs.RowLaws.{ExecutesRow-jump}
use Rattle.alpha_rows.proofs.effects.jump.Goals as goal

pub returns-then-to-from-clause-went : goal.returns-then-to-from-clause-went
returns-then-to-from-clause-went c = λ h mem.
    let a = c.args in
    let p = a.image.now in
    let next = c.address_of.result in
    let target = c.get.result / 4 * 4 in
    let to = (target + (2 ^ 64 - c.code_base.result)) % 2 ^ 64 / 4 in
    let is : next ≡ (p.code_base + 4 * ((a.place.now + 1) % 2 ^ 64)) % 2 ^ 64 =
    c.address_of.ensures ∙ ap (λ (n : ℕ). (p.code_base + 4 * n) % 2 ^ 64) c.advance.ensures in
    let at : target ≡ reg a.regs.now a.row.now.b / 4 * 4 = ap (λ (n : ℕ). n / 4 * 4) c.get.ensures.value in
    let there : to ≡ (target + (2 ^ 64 - p.code_base)) % 2 ^ 64 / 4 =
    ap (λ (n : ℕ). (target + (2 ^ 64 - n)) % 2 ^ 64 / 4) c.code_base.ensures.value in
    let small : target < 2 ^ 64 = omega arith in
    let within : to ≤ length p.words = omega arith in
    ExecutesRow-jump p a.regs.now c.set.new.self mem a.place.now next target to a.row.now c.requires.good c.requires.row
    c.requires.meaning is c.set.ensures.value at small there within
