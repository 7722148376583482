use Rattle.std.proofs.Common.{refl}
use Rattle.alpha_debug.proofs.RowTexts.{range-below}
use Rattle.alpha_debug.proofs.print.print_memory.Goals as goal

pub print_bytes-requires : goal.print_bytes-requires
print_bytes-requires g c =
    range-below c.args.memory.now c.args.at c.args.count c.in-Some.bytes.now c.in-Some.ensures.good
    (c.in-Some.ensures.none.0 refl) c.in-Some.ensures.found c.ranges.at.fits
