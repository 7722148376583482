use Rattle.std.proofs.Common.{◌≡◌, ◌++◌, take}
use Rattle.std.specs.List.{flat_map}
use Rattle.alpha_link.specs.Relocations.{relocation_bytes}
use Rattle.alpha_link.proofs.relocations.push_relocations.Given as goal

abbrev pub invariant-loop-relocation : goal.invariant-loop-relocation
invariant-loop-relocation l =
    l.out.items ≡ l.initial.out.items ++ flat_map relocation_bytes (take l.relocation-index l.relocations)
