use Rattle.std.proofs.Common.{ap, ◌∙◌}
use Rattle.alpha_pal.specs.Frame.{frame_of}
use Rattle.alpha_pal.proofs.Frames.{written_frame, frame_of-bytes_of}
use Rattle.alpha_pal.proofs.frame.Frame.write.Goals as goal

pub returns-clause-bytes : goal.returns-clause-bytes
returns-clause-bytes c =
    written_frame c.args.self c.args.bytes.now _ _ _ _ _ _ c.requires c.put_quadword.ensures.bytes
    c.put_quadword-2.ensures.bytes c.put_quadword-3.ensures.bytes c.put_quadword-4.ensures.bytes
    c.put_quadword-5.ensures.bytes c.put_quadword-6.ensures.bytes

pub returns-clause-numbers : goal.returns-clause-numbers
returns-clause-numbers c =
    ap frame_of (returns-clause-bytes c)
    ∙ frame_of-bytes_of c.args.self c.put_quadword.ensures.fits c.put_quadword-2.ensures.fits
    c.put_quadword-3.ensures.fits c.put_quadword-4.ensures.fits c.put_quadword-5.ensures.fits
    c.put_quadword-6.ensures.fits
