-- Where the symbols of each module begin in a row of all.
use Rattle.std.specs.Prelude.{◌≡◌, ℕ, List, length, take, slice_get, Some}
use Rattle.std.specs.List.{flat_map}
use Rattle.alpha_link.specs.Linked.{Located}

-- how many symbols modules have
abbrev pub symbols_of : List Located → ℕ
symbols_of ls = length (flat_map (λ l. l.parts.symbols) ls)

-- how many stand before those of each module
pub record AreStarts (starts : List ℕ) (ls : List Located) : Type 0 where
  pub size : length starts ≡ length ls
  pub counts : (i s : ℕ) → slice_get starts i ≡ Some s → s ≡ symbols_of (take i ls)
