use Rattle.std.proofs.Common.{◌≡◌, ◌<◌, ◌^◌, length, rules}
use Rattle.alpha_trap.specs.Handler.{going_on}
use Rattle.alpha_imprecise.proofs.Reports.{handled-reported, scan-lost, trap_in-handler_trap}
use Rattle.alpha_imprecise.proofs.report.run_handler.Goals as goal

pub returns-in-Ok-clause-ok : goal.returns-in-Ok-clause-ok
returns-in-Ok-clause-ok c =
    let m = c.args.machine.now in
    let sized : length m.regs ≡ 32 = c.get-zero.ensures.file.size in
    let small : c.args.mask < 2 ^ 31 = search rules in
    handled-reported m.image m.completion m.pc c.args.mask m.regs c.enter_arith.new.regs c.enter_arith.new.self
    (going_on c.in-Ok.pc c.handle.new.regs)
    sized small c.enter_arith.ensures.state c.enter_arith.ensures.regs c.in-Ok.ensures.ok

pub returns-in-Err-clause-refused : goal.returns-in-Err-clause-refused
returns-in-Err-clause-refused c =
    let m = c.args.machine.now in
    let sized : length m.regs ≡ 32 = c.get-zero.ensures.file.size in
    let small : c.args.mask < 2 ^ 31 = search rules in
    scan-lost m.image m.pc c.args.mask m.regs c.enter_arith.new.regs c.enter_arith.new.self c.in-Err.lost
    sized small c.enter_arith.ensures.state c.enter_arith.ensures.regs c.in-Err.ensures.refused c.in-Err.ensures.cause

pub returns-in-Err-clause-lost : goal.returns-in-Err-clause-lost
returns-in-Err-clause-lost c =
    let m = c.args.machine.now in
    let sized : length m.regs ≡ 32 = c.get-zero.ensures.file.size in
    let small : c.args.mask < 2 ^ 31 = search rules in
    trap_in-handler_trap m.pc c.args.mask m.regs c.enter_arith.new.regs c.enter_arith.new.self c.in-Err.lost
    sized small c.enter_arith.ensures.state c.enter_arith.ensures.regs c.in-Err.ensures.refused
