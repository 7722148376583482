use Rattle.std.proofs.Common.{◌≡◌, List, ℕ, ap, sym, ◌∙◌, subst, Some}
use Rattle.std.specs.Prelude.{position, IfSome, slice_get, option_map}
use Rattle.std.specs.Borrow.{Bor}
use Rattle.std.specs.Str.{bytes_eq}
use Rattle.std.proofs.lemmas.Option.{slice_get-map}
use Rattle.alpha_names.proofs.NumberedNames.{AreFoundBy-number}
use Rattle.alpha_names.proofs.names.Names.get.Goals as goal

pub returns-clause-value : goal.returns-clause-value
returns-clause-value c =
    let items : List (Bor (List ℕ)) = c.self.inside.names.items in
    ap (option_map (λ (n : Bor (List ℕ)). n.now))
    (c.name_at.ensures ∙ ap (λ (ns : List (Bor (List ℕ))). slice_get ns c.args.number) c.deref.ensures.value)
    ∙ (sym (slice_get-map (λ (n : Bor (List ℕ)). n.now) items c.args.number)
    ∙ ap (λ (ns : List (List ℕ)). slice_get ns c.args.number) c.self.view_is)

pub returns-clause-single : goal.returns-clause-single
returns-clause-single c =
    let P : List (List ℕ) → Type 0 =
    λ ns. IfSome c.name_at.result (λ n. position (bytes_eq n.now) ns ≡ Some c.args.number) in
    subst P c.self.view_is
    (AreFoundBy-number c.self.inside.names.items c.self.inside.numbers c.self.invariant c.args.number c.name_at.result
    (c.name_at.ensures ∙ ap (λ (ns : List (Bor (List ℕ))). slice_get ns c.args.number) c.deref.ensures.value))
