use Rattle.std.proofs.Common.{◌*◌, ◌<◌, refl, ap, arith, length}
use Rattle.std.proofs.lemmas.List.{take_rest}
use Rattle.alpha_image.proofs.SegmentLists.{length-segments_in, segments_in-more}
use Rattle.alpha_image.proofs.segment.read_segments.Goals as goal

pub push-requires : goal.push-requires
push-requires c =
    let few : length c.loop-n.segments.items < 8 =
    omega (arith, ap length c.loop-n.invariant, length-segments_in c.loop-n.n c.args.bytes.now) in
    (omega arith, few)

pub loop-n-preserved : goal.loop-n-preserved
loop-n-preserved c =
    let bytes = c.args.bytes.now in
    let read = rw (take_rest bytes (16 * c.loop-n.n)) at c.read.ensures.value in
    rw (c.push.ensures.items, segments_in-more c.loop-n.n bytes, read, c.loop-n.invariant) refl
