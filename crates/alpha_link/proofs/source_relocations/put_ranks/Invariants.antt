use Rattle.std.proofs.Common.{◌≡◌, ◌++◌, map, take, drop}
use Rattle.alpha_link.specs.Numbered.{ranked}
use Rattle.alpha_link.proofs.source_relocations.put_ranks.Given as goal

abbrev pub invariant-loop-relocation : goal.invariant-loop-relocation
invariant-loop-relocation l =
    l.relocation-items
    ≡ map (ranked l.ranks) (take l.relocation-index l.initial.relocation-items)
    ++ drop l.relocation-index l.initial.relocation-items
