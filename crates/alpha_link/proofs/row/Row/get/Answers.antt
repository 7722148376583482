use Rattle.std.proofs.Common.{List, ◌-◌, ap, sym, ◌∙◌}
use Rattle.std.specs.Prelude.{slice_get}
use Rattle.alpha_link.specs.Linked.{Located}
use Rattle.alpha_link.specs.GlobalSymbols.{global_symbols}
use Rattle.alpha_link.proofs.AreEntered.{take-drop_all, global_symbols-from_module, slice_get-take}
use Rattle.alpha_link.proofs.row.Row.get.Goals as goal

pub returns-in-Some : goal.returns-in-Some
returns-in-Some c =
    let row = c.args.self.now in
    let begins = row.begun.counts c.in-Some.at c.in-Some.start c.in-Some.ensures.here in
    c.global_symbol_at.ensures
    ∙ (ap (λ (rest : List Located). slice_get (global_symbols rest) (c.args.number - c.in-Some.start))
    (take-drop_all c.in-Some.at row.places.now)
    ∙ (global_symbols-from_module row.places.now c.in-Some.at c.in-Some.start c.args.number begins
    c.in-Some.ensures.before
    ∙ sym (slice_get-take row.count (global_symbols row.places.now) c.args.number c.if-number-self.false)))

pub returns-in-None : goal.returns-in-None
returns-in-None c =
    let row = c.args.self.now in
    c.global_symbol_at-in-None.ensures
    ∙ sym (slice_get-take row.count (global_symbols row.places.now) c.args.number c.if-number-self.false)
