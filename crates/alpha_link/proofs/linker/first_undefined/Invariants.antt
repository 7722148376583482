use Rattle.std.proofs.Common.{◌≡◌, drop}
use Rattle.alpha_link.proofs.JoinedModules.{missing_by}
use Rattle.alpha_link.specs.Names.{found_in}
use Rattle.alpha_link.proofs.linker.first_undefined.Given as goal

abbrev pub invariant-loop-located : goal.invariant-loop-located
invariant-loop-located l =
    missing_by (found_in l.names) (drop l.located-index l.places) ≡ missing_by (found_in l.names) l.places
