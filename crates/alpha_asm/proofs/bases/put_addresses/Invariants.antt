use Rattle.alpha_asm.specs.Bases.{known_of}
use Rattle.alpha_asm.proofs.PutAddresses.{PutUpTo}
use Rattle.alpha_asm.proofs.bases.put_addresses.Given as goal

abbrev pub invariant-loop-patch : goal.invariant-loop-patch
invariant-loop-patch l =
    PutUpTo (known_of l.bases) l.patches l.patch-index l.initial.code.items l.code.items l.initial.bytes.items
    l.bytes.items
    l.unmet
