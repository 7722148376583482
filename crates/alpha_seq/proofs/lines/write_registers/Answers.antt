use Rattle.std.proofs.Common.{ℕ, List, sym, subst}
use Rattle.std.specs.Prelude.{OnOk}
use Rattle.std.specs.Io.KnownBytes.{Appends}
use Rattle.alpha_io.specs.Written.{WritesPrefix}
use Rattle.alpha_io.proofs.Writes.{WritesPrefix-after, WritesPrefix-more}
use Rattle.alpha_seq.specs.Notes.{sixteen_registers}
use Rattle.alpha_seq.proofs.RegisterWrites.{both_written, both_caused, register_halves}
use Rattle.alpha_seq.proofs.lines.write_registers.Goals as goal

pub returns-in_err-write_sixteen-clause-prefix : goal.returns-in_err-write_sixteen-clause-prefix
returns-in_err-write_sixteen-clause-prefix g c =
    let regs = c.args.regs.now in
    subst (λ (l : List ℕ). WritesPrefix (g.K.Sink.written c.args.to.now) (g.K.Sink.written c.write_sixteen.new.to) l)
    (sym (register_halves regs))
    (WritesPrefix-more (g.K.Sink.written c.args.to.now) (g.K.Sink.written c.write_sixteen.new.to)
    (sixteen_registers regs 0) (sixteen_registers regs 16) c.in_err-write_sixteen.ensures.prefix)

pub returns-clause-written : goal.returns-clause-written
returns-clause-written g c =
    let regs = c.args.regs.now in
    subst (λ (l : List ℕ). OnOk c.write_sixteen-2.result
    (Appends (g.K.Sink.written c.args.to.now) (g.K.Sink.written c.write_sixteen-2.new.to) l))
    (sym (register_halves regs))
    (both_written c.write_sixteen-2.result (g.K.Sink.written c.args.to.now)
    (g.K.Sink.written c.write_sixteen.new.to) (g.K.Sink.written c.write_sixteen-2.new.to) (sixteen_registers regs 0)
    (sixteen_registers regs 16) c.in_ok-write_sixteen.ensures.written c.write_sixteen-2.ensures.written)

pub returns-clause-prefix : goal.returns-clause-prefix
returns-clause-prefix g c =
    let regs = c.args.regs.now in
    subst (λ (l : List ℕ). WritesPrefix (g.K.Sink.written c.args.to.now) (g.K.Sink.written c.write_sixteen-2.new.to) l)
    (sym (register_halves regs))
    (WritesPrefix-after (g.K.Sink.written c.args.to.now) (g.K.Sink.written c.write_sixteen.new.to)
    (g.K.Sink.written c.write_sixteen-2.new.to) (sixteen_registers regs 0)
    (sixteen_registers regs 16) c.in_ok-write_sixteen.ensures.written c.write_sixteen-2.ensures.prefix)

pub returns-clause-cause : goal.returns-clause-cause
returns-clause-cause g c =
    both_caused c.write_sixteen-2.result (g.K.Sink.faults c.args.to.now) (g.K.Sink.faults c.write_sixteen.new.to)
    (g.K.Sink.faults c.write_sixteen-2.new.to)
    c.in_ok-write_sixteen.ensures.cause.ok c.write_sixteen-2.ensures.cause
