-- Values of names, each at its name's number.
use Rattle.std.specs.Prelude.{ℕ, List, Option, slice_get, position}
use Rattle.std.specs.Option.{option_and_then}
use Rattle.std.specs.Str.{bytes_eq}

abbrev pub value_of : {X : Type 0} → List X → List (List ℕ) → List ℕ → Option X
value_of values names name = option_and_then (slice_get values) (position (bytes_eq name) names)
