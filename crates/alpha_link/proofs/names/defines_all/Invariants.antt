use Rattle.std.proofs.Common.{◌≡◌, drop}
use Rattle.std.specs.List.{list_all}
use Rattle.alpha_link.specs.Linked.{is_defined}
use Rattle.alpha_link.proofs.names.defines_all.Given as goal

abbrev pub invariant-loop-number : goal.invariant-loop-number
invariant-loop-number l =
    list_all (λ s. is_defined s.section) (drop l.number l.symbols) ≡ list_all (λ s. is_defined s.section) l.symbols
