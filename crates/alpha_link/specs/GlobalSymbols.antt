-- The symbols of modules in a row, and the numbers by which the defined ones are found.
use Rattle.std.specs.Prelude.{◌≡◌, ℕ, Bool, true, false, ◌&&◌, List, map, take, slice_get, Option, Some, is_some}
use Rattle.std.specs.List.{flat_map}
use Rattle.std.specs.Option.{option_map_or, option_and_then}
use Rattle.std.specs.Str.{bytes_eq}
use Rattle.alpha_names.specs.Finder.{Finder, IsOnly}
use Rattle.alpha_link.specs.Symbols.{Named}
use Rattle.alpha_link.specs.Linked.{Located, section_address}
use Rattle.alpha_link.specs.declared.row.Row.{Row}
use Rattle.alpha_link.specs.declared.row.GlobalSymbol as own

-- a symbol's name, and its address where it is defined
pub record GlobalSymbol : Type 0 where
  pub name : List ℕ
  pub address : Option ℕ

abbrev pub global_symbol : own.GlobalSymbol → GlobalSymbol
global_symbol s = record { name = s.name.now; address = s.address }

abbrev pub global_symbol_of : Located → Named → GlobalSymbol
global_symbol_of l s = record { name = s.name; address = section_address l s.section s.offset }

abbrev pub global_symbols_in : Located → List GlobalSymbol
global_symbols_in l = map (global_symbol_of l) l.parts.symbols

-- all symbols of modules, those of the first module first
abbrev pub global_symbols : List Located → List GlobalSymbol
global_symbols ls = flat_map global_symbols_in ls

-- so many of them
abbrev pub used_symbols : Row → List GlobalSymbol
used_symbols row = take row.count (global_symbols row.places.now)

-- whether a symbol defines a name
abbrev pub defines : List ℕ → GlobalSymbol → Bool
defines name s = is_some s.address && bytes_eq s.name name

-- whether the symbol with a number defines a name
abbrev pub is_of : List GlobalSymbol → List ℕ → ℕ → Bool
is_of row name number = option_map_or (defines name) (slice_get row number) false

-- the address of the symbol with a number
abbrev pub address_at : List GlobalSymbol → Option ℕ → Option ℕ
address_at row number = option_and_then (λ s. s.address) (option_and_then (slice_get row) number)

-- no name is defined twice, and the symbol that alone defines a name is found
pub record AreEntered (row : List GlobalSymbol) (find : Finder) : Type 0 where
  pub single : (j k : ℕ) (s t : GlobalSymbol) → slice_get row j ≡ Some s → slice_get row k ≡ Some t
      → is_some s.address ≡ true → is_some t.address ≡ true → s.name ≡ t.name → j ≡ k
  pub found : (k : ℕ) (s : GlobalSymbol) → slice_get row k ≡ Some s → is_some s.address ≡ true
      → (is_right : ℕ → Bool) → IsOnly k is_right → find is_right s.name ≡ Some k
