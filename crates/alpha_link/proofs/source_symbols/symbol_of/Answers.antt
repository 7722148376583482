use Rattle.std.proofs.Common.{Option, ap, sym, ◌∙◌, subst}
use Rattle.std.specs.Prelude.{IfSome}
use Rattle.alpha_asm.specs.declared.place.LabelLocation.{LabelLocation}
use Rattle.alpha_link.specs.Made.{symbol_at_location}
use Rattle.alpha_link.specs.Unlinked.{IsNear}
use Rattle.alpha_link.proofs.IsNumbered.{location_named-label_names}
use Rattle.alpha_link.proofs.source_symbols.symbol_of.Goals as goal

pub symbol_at_location-requires : goal.symbol_at_location-requires
symbol_at_location-requires c =
    let (names, numbered, there) = c.requires.number in
    let P : Option LabelLocation → Type 0 = λ s. IfSome s IsNear in
    let name = c.args.keyed.now.name.now in
    subst P
    (sym (c.location_of_number.ensures
    ∙ location_named-label_names c.args.labels.now names c.args.keyed.now.number name numbered there))
    (c.requires.in_range name)

pub returns : goal.returns
returns c =
    let (names, numbered, there) = c.requires.number in
    let name = c.args.keyed.now.name.now in
    c.symbol_at_location.ensures
    ∙ ap (symbol_at_location name)
    (c.location_of_number.ensures
    ∙ location_named-label_names c.args.labels.now names c.args.keyed.now.number name numbered there)
