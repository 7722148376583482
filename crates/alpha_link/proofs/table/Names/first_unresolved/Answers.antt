use Rattle.std.proofs.Common.{◌≡◌, List, Some, is_none, ap, sym, ◌∙◌}
use Rattle.std.specs.Prelude.{not, slice_get}
use Rattle.alpha_link.specs.Symbols.{Named, named}
use Rattle.alpha_link.specs.Parts.{ModuleParts}
use Rattle.alpha_link.specs.Linked.{Located}
use Rattle.alpha_link.specs.Names.{found_in}
use Rattle.alpha_link.proofs.LoopLists.{position_begins, position_stops, position_goes}
use Rattle.alpha_link.proofs.OwnAddresses.{own_address}
use Rattle.alpha_link.proofs.table.Names.first_unresolved.Goals as goal

pub loop-number-init : goal.loop-number-init
loop-number-init c =
    position_begins (λ (t : Named). is_none (found_in c.args.self.now t.name)) c.args.located.now.parts.symbols

pub returns-then-is_none : goal.returns-then-is_none
returns-then-is_none c =
    let l : Located = c.args.located.now in
    let i = c.loop-number.number in
    let s = named c.at.result in
    let same =
    ap (λ (m : ModuleParts). m.symbols) c.module.view_is ∙ ap (λ (x : Located). x.parts.symbols) c.located.view_is in
    let here : slice_get l.parts.symbols i ≡ Some s =
    ap (λ (xs : List Named). slice_get xs i) (sym same) ∙ c.at.ensures in
    position_stops (λ (t : Named). is_none (found_in c.args.self.now t.name)) l.parts.symbols i s _ here
    (ap is_none (sym (own_address (found_in c.args.self.now) l i s c.requires here))
    ∙ (ap is_none (sym c.address_of.ensures) ∙ ap not (c.is_none.ensures ∙ ap not c.if-is_none.true)))
    c.loop-number.invariant

pub loop-number-preserved : goal.loop-number-preserved
loop-number-preserved c =
    let l : Located = c.args.located.now in
    let i = c.loop-number.number in
    let s = named c.at.result in
    let same =
    ap (λ (m : ModuleParts). m.symbols) c.module.view_is ∙ ap (λ (x : Located). x.parts.symbols) c.located.view_is in
    let here : slice_get l.parts.symbols i ≡ Some s =
    ap (λ (xs : List Named). slice_get xs i) (sym same) ∙ c.at.ensures in
    position_goes (λ (t : Named). is_none (found_in c.args.self.now t.name)) l.parts.symbols i s _ here
    (ap is_none (sym (own_address (found_in c.args.self.now) l i s c.requires here))
    ∙ (ap is_none (sym c.address_of.ensures) ∙ ap not (c.is_none.ensures ∙ ap not c.if-is_none.false)))
    c.loop-number.invariant
