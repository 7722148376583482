use Rattle.std.proofs.Common.{◌≡◌, drop, is_none}
use Rattle.std.specs.Prelude.{position}
use Rattle.std.specs.List.{position_from}
use Rattle.alpha_link.specs.Names.{found_in}
use Rattle.alpha_link.proofs.table.Names.first_unresolved.Given as goal

abbrev pub invariant-loop-number : goal.invariant-loop-number
invariant-loop-number l =
    position_from (λ s. is_none (found_in l.self s.name)) l.number (drop l.number l.located.parts.symbols)
    ≡ position (λ s. is_none (found_in l.self s.name)) l.located.parts.symbols
