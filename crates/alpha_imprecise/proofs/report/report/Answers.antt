use Rattle.std.proofs.Common.{Option, None, IsTrue, refl, ap, sym, subst, ◌∙◌}
use Rattle.alpha_pal.specs.Kernel.{KernelState}
use Rattle.alpha_values.specs.TrapOp.{stops}
use Rattle.alpha_seq.specs.declared.event.Event.TheVariants as events
use Rattle.alpha_seq.specs.declared.machine.Machine.{Machine}
use Rattle.alpha_trap.specs.Handler.{going_on}
use Rattle.alpha_imprecise.specs.declared.pending.Pending.{Pending}
use Rattle.alpha_imprecise.specs.Chosen.{reporting}
use Rattle.alpha_imprecise.specs.ImpreciseState.{imprecise_state}
use Rattle.alpha_imprecise.specs.ImpreciseStepEffect.{StepsAs}
use Rattle.alpha_imprecise.proofs.Reports.{Scanned-pc_bound, landed-handled, landed-kernel, lost-handled}
use Rattle.alpha_imprecise.proofs.Reports.{reported-Scanned}
use Rattle.alpha_imprecise.proofs.report.report.Goals as goal

pub land-requires : goal.land-requires
land-requires c = λ going.
    let m = c.args.machine.now in
    let mask = c.args.trap.now.mask in
    let h = going_on c.in-Ok.pc c.run_handler.new.machine.regs in
    Scanned-pc_bound m.image m.completion m.pc mask m.regs h
    (reported-Scanned m.image m.completion m.pc mask m.regs h c.in-Ok.ensures.ok)
    (ap (λ (x : Machine). stops x.completion) (sym c.in-Ok.ensures.frame) ∙ going)

pub returns-in-Ok-clause-step : goal.returns-in-Ok-clause-step
returns-in-Ok-clause-step c =
    let m = c.args.machine.now in
    subst (λ (p : Option Pending).
    StepsAs c.land.result (imprecise_state m p) (imprecise_state c.land.new.machine None) (reporting 0).choice)
    (sym c.requires.trap)
    (landed-handled m c.run_handler.new.machine c.land.new.machine c.args.trap.now c.in-Ok.pc c.land.result
    c.in-Ok.ensures.ok c.in-Ok.ensures.frame c.land.ensures.answer c.land.ensures.state)

pub returns-in-Ok-clause-user : goal.returns-in-Ok-clause-user
returns-in-Ok-clause-user c =
    let mid = c.run_handler.new.machine in
    let kernel = ap (λ (x : Machine). x.kernel) c.land.ensures.state
    ∙ (landed-kernel (stops mid.completion) mid c.in-Ok.pc ∙ ap (λ (x : Machine). x.kernel) c.in-Ok.ensures.frame) in
    subst (λ (k : KernelState). IsTrue k.user) (sym kernel) refl

pub returns-in-Err-clause-step : goal.returns-in-Err-clause-step
returns-in-Err-clause-step c =
    let m = c.args.machine.now in
    let new = c.run_handler.new.machine in
    let lost = c.in-Err.lost in
    subst (λ (p : Option Pending).
    StepsAs (events.Lost lost.trap_pc lost.mask) (imprecise_state m p) (imprecise_state new p) (reporting 0).choice)
    (sym c.requires.trap)
    (lost-handled m new c.args.trap.now lost c.in-Err.ensures.refused c.in-Err.ensures.lost c.in-Err.ensures.same)
