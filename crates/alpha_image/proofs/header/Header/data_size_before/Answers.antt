use Rattle.std.proofs.Common.{arith}
use Rattle.alpha_image.specs.Header.{header_numbers}
use Rattle.alpha_image.proofs.SegmentLists.{filled_size-fits, filled_size-take}
use Rattle.alpha_image.proofs.header.Header.data_size_before.Goals as goal

pub data_size-requires : goal.data_size-requires
data_size-requires c =
    rw c.deref.ensures.0 (omega (
      arith,
      filled_size-take c.args.self.now.segments.items c.args.n,
      filled_size-fits (header_numbers c.args.self.now) c.requires.fits,
    ))
