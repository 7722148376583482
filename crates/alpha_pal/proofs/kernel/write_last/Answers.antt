use Rattle.std.proofs.Common.{length, ◌-◌, ap, ◌∙◌, arith}
use Rattle.alpha_pal.specs.Frame.{frame_of}
use Rattle.alpha_pal.proofs.Frames.{drop-written_end}
use Rattle.alpha_pal.proofs.kernel.write_last.Goals as goal

pub returns-clause-bytes : goal.returns-clause-bytes
returns-clause-bytes c =
    drop-written_end 4048 (length c.args.stack.now - 4048) c.args.stack.now c.write.new.bytes
    (omega arith) (omega arith)
    ∙ c.write.ensures.bytes

pub returns-clause-numbers : goal.returns-clause-numbers
returns-clause-numbers c =
    ap frame_of
    (drop-written_end 4048 (length c.args.stack.now - 4048) c.args.stack.now c.write.new.bytes (omega arith)
    (omega arith))
    ∙ c.write.ensures.numbers
