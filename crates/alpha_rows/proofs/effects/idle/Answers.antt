use Rattle.alpha_rows.proofs.RowLaws.{ExecutesRow-idle}
use Rattle.alpha_rows.proofs.effects.idle.Goals as goal

pub returns-clause-went : goal.returns-clause-went
returns-clause-went c = λ mem.
    let a = c.args in
    ExecutesRow-idle a.image.now a.regs.now mem a.place.now c.advance.new.place a.row.now c.requires.row
    c.requires.meaning c.advance.ensures
