use Rattle.std.proofs.Common.{◌≡◌, List, Some, ap, sym, ◌∙◌}
use Rattle.std.specs.Prelude.{slice_get}
use Rattle.alpha_link.specs.Symbols.{Named, named}
use Rattle.alpha_link.specs.Parts.{ModuleParts}
use Rattle.alpha_link.specs.Linked.{Located}
use Rattle.alpha_link.proofs.OwnAddresses.{owned-section_address}
use Rattle.alpha_link.proofs.addresses.own_address.Goals as goal

pub returns : goal.returns
returns c =
    let l : Located = c.args.located.now in
    let same =
    ap (λ (m : ModuleParts). m.symbols) c.module.view_is ∙ ap (λ (x : Located). x.parts.symbols) c.located.view_is in
    let here : slice_get l.parts.symbols c.args.number ≡ Some (named c.in_ok-symbol.symbol) =
    ap (λ (xs : List Named). slice_get xs c.args.number) (sym same) ∙ sym c.in_ok-symbol.ensures in
    c.address.ensures ∙ sym (owned-section_address l c.args.number (named c.in_ok-symbol.symbol) here)
