use Rattle.std.proofs.Common.{◌≡◌, ap, ◌∙◌}
use Rattle.alpha_io.specs.Supply.{supply}
use Rattle.alpha_words.specs.Regs.{reg}
use Rattle.alpha_pal.specs.declared.frame.Frame.{Frame}
use Rattle.alpha_pal.proofs.PalCalls.{callsys-CallEffect, input_cause, sink_cause}
use Rattle.alpha_pal.proofs.kernel.Kernel.callsys.Goals as goal

pub returns-clause-effect : goal.returns-clause-effect
returns-clause-effect g c =
    let frame : Frame = record { ps = 8; pc = c.args.next; gp = c.get.result; r16 = 0; r17 = 0; r18 = 0 } in
    let same : reg c.args.regs.now c.reg_of_number.result ≡ reg c.args.regs.now 29 =
    ap (reg c.args.regs.now) c.reg_of_number.ensures in
    let gp : c.get.result ≡ reg c.args.regs.now 29 = c.get.ensures.value ∙ same in
    λ unique. callsys-CallEffect c.of-request.result c.serve-served.result c.finish-end.result c.enter.new.self
    frame c.args.regs.now c.enter.new.regs c.finish-end.new.regs c.retsys.new.regs c.args.mem.now
    c.serve-served.new.mem unique (supply g.S.Source c.args.input.now) (supply g.S.Source c.serve-served.new.input)
    (g.K.Sink.written c.args.out.now) (g.K.Sink.written c.serve-served.new.out) c.of-request.ensures.file.size
    c.of-request.ensures.value c.enter.ensures.state gp c.enter.ensures.regs c.serve-served.ensures.effect
    c.finish-end.ensures.end c.finish-end.ensures.regs c.retsys.ensures.regs

pub returns-clause-input : goal.returns-clause-input
returns-clause-input g c =
    input_cause c.of-request.result c.serve-served.result c.finish-end.result _ _ c.finish-end.ensures.end
    c.serve-served.ensures.input

pub returns-clause-sink : goal.returns-clause-sink
returns-clause-sink g c =
    sink_cause c.of-request.result c.serve-served.result c.finish-end.result _ _ c.finish-end.ensures.end
    c.serve-served.ensures.sink
