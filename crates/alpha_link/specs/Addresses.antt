-- The addresses of a module's symbols, as the linker holds them.
use Rattle.std.specs.Prelude.{◌≡◌, ℕ, List, map, slice_get, Option, Some}
use Rattle.std.specs.Option.{option_map_or, option_or}
use Rattle.alpha_link.specs.Symbols.{Named}
use Rattle.alpha_link.specs.Linked.{Located, section_address}
use Rattle.alpha_link.specs.declared.addresses.Addresses.TheInside.{Inside}

-- the addresses at which a module defines its symbols
abbrev pub owned : Located → List (Option ℕ)
owned l = map (λ s. section_address l s.section s.offset) l.parts.symbols

abbrev pub addresses_in : Inside → List (Option ℕ)
addresses_in i = option_map_or (λ v. map Some v.items) i.listed (owned i.located.now)

-- the address at which a module defines a symbol, or that of its name
abbrev pub address_by_own : (List ℕ → Option ℕ) → Located → Named → Option ℕ
address_by_own find l s = option_or (section_address l s.section s.offset) (find s.name)

-- the names that a module defines have the addresses at which it does
abbrev pub Knows : (List ℕ → Option ℕ) → Located → Type 0
Knows find l = (k : ℕ) (s : Named) (a : ℕ) → slice_get l.parts.symbols k ≡ Some s
    → section_address l s.section s.offset ≡ Some a → find s.name ≡ Some a

abbrev pub AllKnow : (List ℕ → Option ℕ) → List Located → Type 0
AllKnow find ls = (k : ℕ) (l : Located) → slice_get ls k ≡ Some l → Knows find l
