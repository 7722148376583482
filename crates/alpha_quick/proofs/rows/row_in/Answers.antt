use Rattle.std.proofs.Common.{◌≡◌, IsTrue, rules, subst, sym}
use Rattle.alpha_table.specs.Names.{name_of}
use Rattle.alpha_quick.specs.declared.rows.KeyedRow.{KeyedRow}
use Rattle.alpha_quick.specs.Keys.{is_named}
use Rattle.alpha_quick.proofs.Keys.{is_named-row_at}
use Rattle.alpha_quick.proofs.rows.row_in.Goals as goal

pub returns-then-eq : goal.returns-then-eq
returns-then-eq c =
    let (within, is) = c.in_ok-keyed.ensures.lookup.3 in
    let keyed = c.in_ok-keyed.field-0.now in
    let same : c.in_ok-keyed.field-0.now.key.0 ≡ c.args.key.0 = search rules in
    subst (λ k. IsTrue (is_named (name_of keyed.row) k)) same
    (subst (λ (r : KeyedRow). IsTrue (is_named (name_of r.row) r.key.0)) (sym (is keyed))
    (is_named-row_at c.args.rows.now c.args.place keyed c.requires within))
