use Rattle.std.proofs.Common.{◌≡◌, map, take, Some}
use Rattle.alpha_link.specs.Addresses.{address_by_own}
use Rattle.alpha_link.specs.Names.{found_in}
use Rattle.alpha_link.proofs.table.Names.addresses_of.Given as goal

abbrev pub invariant-loop-number : goal.invariant-loop-number
invariant-loop-number l =
    map Some l.all.items ≡ map (address_by_own (found_in l.self) l.located) (take l.number l.located.parts.symbols)
