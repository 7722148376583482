use Rattle.std.proofs.Common.{sym}
use Rattle.alpha_dis.proofs.ListingTexts.{slice_get-piece_of}
use Rattle.alpha_dis.proofs.listing.segment_at.Goals as goal

pub returns : goal.returns
returns c =
    let p = c.args.image.now in
    let found = c.in-Some-Some in
    slice_get-piece_of p.segments p.bytes c.args.n found.segment found.bytes.now (sym found.ensures.value)
    (sym found.ensures'.value)
