-- Where labels are defined, as the code has it.
use Rattle.std.specs.Prelude.{ℕ, Bool, List, Option}
use Rattle.std.specs.Borrow.{Bor}
use Rattle.std.specs.List.{list_any}
use Rattle.std.specs.Str.{bytes_eq}
use Rattle.alpha_names.specs.Values.{value_of}
use Rattle.alpha_asm.specs.declared.label.Labels.{Labels}
use Rattle.alpha_asm.specs.declared.place.LabelLocation.{LabelLocation}

abbrev pub location_named : Labels → List ℕ → Option LabelLocation
location_named ls name = value_of ls.locations.items ls.names name

-- the names of the labels that are defined, each at its number
abbrev pub label_names : Labels → List (List ℕ)
label_names ls = ls.names

-- a name is one of these
abbrev pub are_among : List (Bor (List ℕ)) → List ℕ → Bool
are_among names name = list_any (λ n. bytes_eq name n.now) names
