use Rattle.std.proofs.Common.{◌≡◌, ◌++◌, map, drop}
use Rattle.alpha_asm.specs.Patches.{fix_of}
use Rattle.alpha_link.specs.Numbered.{relocations_at}
use Rattle.alpha_link.proofs.source_relocations.push_relocations_at.Given as goal

abbrev pub invariant-loop-at : goal.invariant-loop-at
invariant-loop-at l =
    l.relocations.items ++ relocations_at l.side (map fix_of (drop l.at l.patches)) (drop l.at l.numbers)
    ≡ l.initial.relocations.items ++ relocations_at l.side (map fix_of l.patches) l.numbers
