use Rattle.std.proofs.Common.{sym}
use Rattle.alpha_asm.specs.Bases.{known_of}
use Rattle.alpha_asm.proofs.PutAddresses.{PutUpTo-next, next_patch}
use Rattle.alpha_asm.proofs.bases.put_addresses.Goals as goal

pub loop-patch-preserved : goal.loop-patch-preserved
loop-patch-preserved c =
    rw c.first_out_of_range-unmet.ensures
    (PutUpTo-next (known_of c.args.bases.now) c.args.patches.now c.loop-patch.patch-index _ _ _ _ _ _ _
    c.loop-patch.unmet _
    (next_patch c.args.patches.now c.loop-patch.patch-index _ c.loop-patch-test.true)
    (sym c.in-Some.ensures.found) c.in-Some.ensures.fits c.in-Some.ensures.code c.in-Some.ensures.bytes
    c.loop-patch.invariant)
