use Rattle.std.proofs.Common.{sym, ◌∙◌, ap}
use Rattle.std.proofs.lemmas.Slice.Eq.{bytes_eq-Decides}
use Rattle.alpha_operands.specs.declared.names.Row.{Row}
use Rattle.alpha_operands.proofs.Registers.{register_row-at}
use Rattle.alpha_operands.proofs.names.number_at.Goals as goal

pub returns-in-Some : goal.returns-in-Some
returns-in-Some c =
    let (inside, read) = c.in-Some.ensures.lookup.3 in
    let row = c.in-Some.row.now in
    register_row-at c.args.rows.now c.args.place row c.args.name.now row.number inside
    (ap (λ (r : Row). r.name.now) (sym (read row))
    ∙ (bytes_eq-Decides row.name.now c.args.name.now).0 (sym c.eq.ensures ∙ c.if-eq.true))
    (ap (λ (r : Row). r.number) (sym (read row)))
