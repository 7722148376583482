use Rattle.std.proofs.Common.{◌≡◌, ◌++◌, drop}
use Rattle.std.specs.List.{flat_map}
use Rattle.alpha_link.specs.Symbols.{symbol_bytes}
use Rattle.alpha_link.proofs.symbols.push_symbols.Given as goal

abbrev pub invariant-loop-number : goal.invariant-loop-number
invariant-loop-number l =
    l.out.items ++ flat_map symbol_bytes (drop l.number l.symbols)
    ≡ l.initial.out.items ++ flat_map symbol_bytes l.symbols
