use Rattle.std.proofs.Common.{◌≡◌, List, ℕ, [], length, take, drop}
use Rattle.alpha_link.specs.Linked.{address_of, repeated}
use Rattle.alpha_link.specs.Names.{found_in}
use Rattle.alpha_link.specs.GlobalSymbols.{global_symbols}
use Rattle.alpha_link.proofs.table.Names.of.Given as goal

abbrev pub invariant-loop-located : goal.invariant-loop-located
invariant-loop-located l = record {
  found : (name : List ℕ) → found_in l.names name ≡ address_of (take l.located-index l.places) name;
  single : repeated (take l.located-index l.places) (drop l.located-index l.places) ≡ repeated [] l.places;
  places : l.names.row.places.now ≡ l.places;
  count : l.names.row.count ≡ length (global_symbols (take l.located-index l.places));
}
