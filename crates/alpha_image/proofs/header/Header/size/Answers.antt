use Rattle.std.proofs.Common.{arith}
use Rattle.alpha_image.specs.Header.{header_numbers}
use Rattle.alpha_image.proofs.SegmentLists.{filled_size-fits}
use Rattle.alpha_image.proofs.header.Header.size.Goals as goal

pub data_size-requires : goal.data_size-requires
data_size-requires c =
    rw c.deref.ensures.0 (omega (arith, filled_size-fits (header_numbers c.args.self.now) c.requires))

pub overflow_add-result-2 : goal.overflow_add-result-2
overflow_add-result-2 c =
    let filled = rw c.deref.ensures.0 at c.data_size.ensures.value in
    omega (arith, filled_size-fits (header_numbers c.args.self.now) c.requires, c.requires.words)
