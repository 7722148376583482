use Rattle.std.proofs.Common.{◌+◌}
use Rattle.alpha_io.proofs.Writes.{WritesPrefix-after, WritesPrefix-more}
use Rattle.alpha_seq.specs.Notes.{eight_registers}
use Rattle.alpha_seq.proofs.RegisterWrites.{both_written, both_caused}
use Rattle.alpha_seq.proofs.lines.write_sixteen.Goals as goal

pub returns-in_err-write_eight-clause-prefix : goal.returns-in_err-write_eight-clause-prefix
returns-in_err-write_eight-clause-prefix g c =
    let regs = c.args.regs.now in
    WritesPrefix-more (g.K.Sink.written c.args.to.now) (g.K.Sink.written c.write_eight.new.to)
    (eight_registers regs c.args.first) (eight_registers regs (c.args.first + 8)) c.in_err-write_eight.ensures.prefix

pub returns-clause-written : goal.returns-clause-written
returns-clause-written g c =
    let regs = c.args.regs.now in
    both_written c.write_eight-2.result (g.K.Sink.written c.args.to.now) (g.K.Sink.written c.write_eight.new.to)
    (g.K.Sink.written c.write_eight-2.new.to) (eight_registers regs c.args.first)
    (eight_registers regs (c.args.first + 8)) c.in_ok-write_eight.ensures.written c.write_eight-2.ensures.written

pub returns-clause-prefix : goal.returns-clause-prefix
returns-clause-prefix g c =
    let regs = c.args.regs.now in
    WritesPrefix-after (g.K.Sink.written c.args.to.now) (g.K.Sink.written c.write_eight.new.to)
    (g.K.Sink.written c.write_eight-2.new.to) (eight_registers regs c.args.first)
    (eight_registers regs (c.args.first + 8)) c.in_ok-write_eight.ensures.written c.write_eight-2.ensures.prefix

pub returns-clause-cause : goal.returns-clause-cause
returns-clause-cause g c =
    both_caused c.write_eight-2.result (g.K.Sink.faults c.args.to.now) (g.K.Sink.faults c.write_eight.new.to)
    (g.K.Sink.faults c.write_eight-2.new.to)
    c.in_ok-write_eight.ensures.cause.ok c.write_eight-2.ensures.cause
