use Rattle.std.proofs.Common.{◌<◌, ◌++◌, ℕ, List, [], length, OnErr, sym, subst, arith}
use Rattle.alpha_io.specs.SinkChange.{sink_change}
use Rattle.alpha_debug.specs.declared.block.TheConstants.{BLOCK_ROOM}
use Rattle.alpha_debug.specs.OutputChange.{CutShort}
use Rattle.alpha_debug.proofs.BlockContents.{if-past, SinkFailsWith-past}
use Rattle.alpha_debug.proofs.block.Block.gather.Goals as goal

pub returns-then-bytes-gt-BLOCK_ROOM-clause-refused : goal.returns-then-bytes-gt-BLOCK_ROOM-clause-refused
returns-then-bytes-gt-BLOCK_ROOM-clause-refused g c =
    let waits = c.args.self.now in
    let bytes = c.args.bytes.now in
    let end = c.write_whole.new.out in
    let wrote = c.write_whole.ensures in
    let long : BLOCK_ROOM < length bytes = omega (arith, c.if-bytes-gt-BLOCK_ROOM.true) in
    subst (λ (l : List ℕ). OnErr c.write_whole.result (CutShort (sink_change g.K.Sink c.args.out.now end) l))
    (sym (if-past waits bytes [] waits (waits ++ bytes) (omega (arith, long)) long))
    (SinkFailsWith-past g.K.Sink c.args.out.now c.flush.new.out end waits bytes c.in_ok-flush.ensures.ok
    c.write_whole.result waits wrote.prefix wrote.cause)
