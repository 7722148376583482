use Rattle.std.proofs.Common.{◌≡◌, ℕ, List, Option, Some, ap, sym, ◌∙◌}
use Rattle.std.specs.Prelude.{slice_get}
use Rattle.alpha_link.specs.Symbols.{Named, named}
use Rattle.alpha_link.specs.Parts.{ModuleParts}
use Rattle.alpha_link.specs.Linked.{Located}
use Rattle.alpha_link.proofs.AreEntered.{global_symbol-at}
use Rattle.alpha_link.proofs.global_symbols.global_symbol_in.Goals as goal

pub returns : goal.returns
returns c =
    let l : Located = c.args.located.now in
    let s = c.in_ok-symbol.symbol in
    let same =
    ap (λ (m : ModuleParts). m.symbols) c.module.view_is ∙ ap (λ (x : Located). x.parts.symbols) c.located.view_is in
    let here : slice_get l.parts.symbols c.args.number ≡ Some (named s) =
    ap (λ (xs : List Named). slice_get xs c.args.number) (sym same) ∙ sym c.in_ok-symbol.ensures in
    ap (λ (a : Option ℕ). Some (record { name = s.name.now; address = a })) c.address.ensures
    ∙ sym (global_symbol-at l c.args.number (named s) here)
