use Rattle.std.proofs.Common.{sym, ◌∙◌, arith}
use Rattle.alpha_trap.proofs.HandlerEffect.{handled_report-reported, trap_in-entry, reported-lost}
use Rattle.alpha_trap.proofs.reports.report_code.Goals as goal

pub returns-in-Ok-clause-done : goal.returns-in-Ok-clause-done
returns-in-Ok-clause-done g c =
    sym (handled_report-reported (g.C.TrapCode.parts c.args.code.now) c.args.completion c.enter_arith.new.self
    c.enter_arith.new.regs c.args.regs.now c.args.pc c.args.mask c.get-zero.ensures.file.size (omega arith)
    c.enter_arith.ensures.state c.enter_arith.ensures.regs)
    ∙ c.in-Ok.ensures.ok

pub returns-in-Err-clause-lost : goal.returns-in-Err-clause-lost
returns-in-Err-clause-lost g c =
    c.in-Err.ensures.refused
    ∙ trap_in-entry c.enter_arith.new.self c.enter_arith.new.regs c.args.regs.now c.args.pc c.args.mask
    c.get-zero.ensures.file.size (omega arith) c.enter_arith.ensures.state c.enter_arith.ensures.regs

pub returns-in-Err-clause-cause : goal.returns-in-Err-clause-cause
returns-in-Err-clause-cause g c =
    reported-lost (g.C.TrapCode.parts c.args.code.now) c.args.completion c.args.pc c.args.mask c.args.regs.now
    c.in-Err.lost (returns-in-Err-clause-lost g c) c.in-Err.ensures.cause
