use Rattle.std.proofs.Common.{◌≡◌, ◌++◌, ◌∷◌, [], ℕ, List, map, take, Option, Some, ap, sym, ◌∙◌}
use Rattle.std.specs.Prelude.{slice_get}
use Rattle.std.proofs.lemmas.List.{map-append}
use Rattle.alpha_link.specs.Symbols.{Named, named}
use Rattle.alpha_link.specs.Parts.{ModuleParts}
use Rattle.alpha_link.specs.Linked.{Located}
use Rattle.alpha_link.specs.Addresses.{address_by_own}
use Rattle.alpha_link.specs.Names.{found_in}
use Rattle.alpha_link.proofs.LoopLists.{take-snoc_next}
use Rattle.alpha_link.proofs.table.Names.addresses_of.Goals as goal

pub loop-number-preserved : goal.loop-number-preserved
loop-number-preserved c =
    let l : Located = c.args.located.now in
    let i = c.loop-number.number in
    let s = named c.at.result in
    let same =
    ap (λ (m : ModuleParts). m.symbols) c.module.view_is ∙ ap (λ (x : Located). x.parts.symbols) c.located.view_is in
    let here : slice_get l.parts.symbols i ≡ Some s =
    ap (λ (xs : List Named). slice_get xs i) (sym same) ∙ c.at.ensures in
    let f = address_by_own (found_in c.args.self.now) l in
    let before = c.loop-number.all.items in
    let address : Some c.in-Some.address ≡ f s = sym c.in-Some.is ∙ c.address_of.ensures in
    ap (map Some) c.in_ok-push.ensures.items
    ∙ (map-append Some before (c.in-Some.address ∷ [])
    ∙ (ap (λ (o : Option ℕ). map Some before ++ o ∷ []) address
    ∙ (ap (λ (os : List (Option ℕ)). os ++ f s ∷ []) c.loop-number.invariant
    ∙ (sym (map-append f (take i l.parts.symbols) (s ∷ []))
    ∙ ap (map f) (sym (take-snoc_next l.parts.symbols i s here))))))
