use Rattle.std.proofs.Common.{◌≡◌, ◌++◌, ◌∷◌, [], ℕ, List, Bool, None, if◌then◌else◌, sym, ap, ◌∙◌}
use Rattle.std.specs.Prelude.{position}
use Rattle.std.specs.Str.{bytes_eq}
use Rattle.alpha_names.specs.Values.{value_of}
use Rattle.alpha_names.proofs.NumberedNames.{is_none-true_none, is_none-false_some}
use Rattle.alpha_names.proofs.NameValues.{has_value, value_added}
use Rattle.alpha_asm.specs.declared.place.LabelLocation.{LabelLocation}
use Rattle.alpha_asm.proofs.label.Labels.define.Goals as goal

pub returns-in-Ok-true-clause-defined : goal.returns-in-Ok-true-clause-defined
returns-in-Ok-true-clause-defined c = λ fresh other.
    let name : List ℕ = c.args.name.now in
    let names : List (List ℕ) = c.args.self.now.names in
    let spots : List LabelLocation = c.args.self.now.locations.items in
    let more : c.add.new.self ≡ names ++ name ∷ [] =
    c.in-Ok-true.ensures.names ∙ ap (λ (b : Bool). if b then names ++ name ∷ [] else names) c.in-Ok-true.field-0-test in
    let absent : position (bytes_eq name) names ≡ None =
    is_none-true_none (position (bytes_eq name) names) (sym c.in-Ok-true.field-0-test ∙ c.in-Ok-true.ensures.value) in
    ap (λ (ns : List (List ℕ)). value_of c.push.new.self.items ns other) more
    ∙ (ap (λ (vs : List LabelLocation). value_of vs (names ++ name ∷ []) other) c.in_ok-push.ensures.items
    ∙ value_added spots names name c.args.location c.args.self.now.alike absent other)

pub returns-in-Ok-false-clause-value : goal.returns-in-Ok-false-clause-value
returns-in-Ok-false-clause-value c =
    let name : List ℕ = c.args.name.now in
    let names : List (List ℕ) = c.args.self.now.names in
    is_none-false_some (position (bytes_eq name) names) (sym c.in-Ok-false.field-0-test ∙ c.in-Ok-false.ensures.value)
    ∙ has_value c.args.self.now.locations.items names name c.args.self.now.alike
