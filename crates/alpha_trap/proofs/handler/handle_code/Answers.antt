use Rattle.std.proofs.Common.{◌∙◌}
use Rattle.alpha_trap.proofs.HandlerEffect.{kernel_after-return}
use Rattle.alpha_trap.proofs.handler.handle_code.Goals as goal

pub returns-in-Some-clause-state : goal.returns-in-Some-clause-state
returns-in-Some-clause-state g c =
    kernel_after-return c.args.kernel.now c.end_trap-next.new.kernel c.set_pc.new.self c.rti.new.self
    c.end_trap-next.new.regs c.rti.new.regs c.end_trap-next.result c.rti.result
    (c.end_trap-next.ensures.size ∙ c.trap_in-trap.ensures.size) c.end_trap-next.ensures.status c.set_pc.ensures
    c.rti.ensures.state c.rti.ensures.regs c.rti.ensures.pc
