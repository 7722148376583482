-- Names with their numbers, as the code has them.
use Rattle.std.specs.Prelude.{◌≡◌, ℕ, List, map, Some, slice_get}
use Rattle.std.specs.Borrow.{Bor}
use Rattle.alpha_names.specs.Finder.{Finder, is_named, number_in}
use Rattle.alpha_names.specs.declared.names.Names.TheInside.{Inside}

abbrev pub names_of : Inside → List (List ℕ)
names_of inside = map (λ n. n.now) inside.names.items

-- each of the names is found, with its number
abbrev pub AreFoundBy : List (Bor (List ℕ)) → Finder → Type 0
AreFoundBy names find = (number : ℕ) (name : List ℕ) → slice_get (map (λ n. n.now) names) number ≡ Some name →
    find (is_named names name) name ≡ Some number

abbrev pub AreFound : Inside → Type 0
AreFound inside = AreFoundBy inside.names.items (number_in inside.numbers)
