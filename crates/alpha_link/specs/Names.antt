-- The addresses of names, as the code has them.
use Rattle.std.specs.Prelude.{ℕ, ◌&&◌, List, Option, is_some, position}
use Rattle.alpha_names.specs.Finder.{number_in}
use Rattle.alpha_link.specs.GlobalSymbols.{used_symbols, is_of, address_at}
use Rattle.alpha_link.specs.Linked.{Located, is_defined}
use Rattle.alpha_link.specs.declared.table.Names.{Names}

unfoldable pub found_in : Names → List ℕ → Option ℕ
found_in names name =
    address_at (used_symbols names.row) (number_in names.numbers (is_of (used_symbols names.row) name) name)

-- the least symbol that a module defines and whose name has an address
abbrev pub again_in : (List ℕ → Option ℕ) → Located → Option ℕ
again_in find l = position (λ s. is_defined s.section && is_some (find s.name)) l.parts.symbols
