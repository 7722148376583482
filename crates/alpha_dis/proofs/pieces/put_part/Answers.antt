use Rattle.std.proofs.Common.{◌+◌, ◌-◌, length, ap, ◌∙◌, arith}
use borrow.Rule.Slice.PartMut.{put_mid}
use Rattle.alpha_dis.specs.Written.{before}
use Rattle.alpha_dis.proofs.PutPieces.{before-put_mid}
use Rattle.alpha_dis.proofs.pieces.put_part.Goals as goal

pub returns-clause-value : goal.returns-clause-value
returns-clause-value c =
    let at = c.args.at in
    let piece = c.args.piece.now in
    ap (λ l. before (at + c.args.count) (put_mid at (at + length piece - at) c.args.bytes.now l))
    c.copy_from_slice.ensures.after
    ∙ before-put_mid at (at + length piece - at) c.args.count c.args.bytes.now piece (omega arith) c.requires.count
