use Rattle.alpha_io.proofs.Writes.{WritesPrefix-after, WritesPrefix-more}
use Rattle.alpha_seq.specs.Notes.{barrier_line, register_lines}
use Rattle.alpha_seq.proofs.RegisterWrites.{both_written, both_caused}
use Rattle.alpha_seq.proofs.lines.write_barrier.Goals as goal

pub returns-in_err-write_barrier_line-clause-prefix : goal.returns-in_err-write_barrier_line-clause-prefix
returns-in_err-write_barrier_line-clause-prefix g c =
    let regs = c.args.regs.now in
    WritesPrefix-more (g.K.Sink.written c.args.to.now) (g.K.Sink.written c.write_barrier_line.new.to)
    (barrier_line c.args.pc) (register_lines regs) c.in_err-write_barrier_line.ensures.prefix

pub returns-clause-written : goal.returns-clause-written
returns-clause-written g c =
    let regs = c.args.regs.now in
    both_written c.write_registers.result (g.K.Sink.written c.args.to.now)
    (g.K.Sink.written c.write_barrier_line.new.to) (g.K.Sink.written c.write_registers.new.to) (barrier_line c.args.pc)
    (register_lines regs) c.in_ok-write_barrier_line.ensures.written c.write_registers.ensures.written

pub returns-clause-prefix : goal.returns-clause-prefix
returns-clause-prefix g c =
    let regs = c.args.regs.now in
    WritesPrefix-after (g.K.Sink.written c.args.to.now) (g.K.Sink.written c.write_barrier_line.new.to)
    (g.K.Sink.written c.write_registers.new.to) (barrier_line c.args.pc)
    (register_lines regs) c.in_ok-write_barrier_line.ensures.written c.write_registers.ensures.prefix

pub returns-clause-cause : goal.returns-clause-cause
returns-clause-cause g c =
    both_caused c.write_registers.result (g.K.Sink.faults c.args.to.now) (g.K.Sink.faults c.write_barrier_line.new.to)
    (g.K.Sink.faults c.write_registers.new.to)
    c.in_ok-write_barrier_line.ensures.cause.ok c.write_registers.ensures.cause
