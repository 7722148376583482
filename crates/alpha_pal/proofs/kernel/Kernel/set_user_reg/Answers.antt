use Rattle.std.proofs.Common.{◌≢◌, ap, sym, ◌∙◌, arith}
use Rattle.alpha_pal.specs.Kernel.{KernelState, user_regs}
use Rattle.alpha_pal.proofs.Registers.{user_regs-saved_16, user_regs-saved_17, user_regs-saved_18, user_regs-saved_29}
use Rattle.alpha_pal.proofs.Registers.{user_regs-saved_30, put_live-user_regs}
use Rattle.alpha_pal.proofs.kernel.Kernel.set_user_reg.Goals as goal

pub returns-in-16-clause-user : goal.returns-in-16-clause-user
returns-in-16-clause-user c =
    user_regs-saved_16 c.args.self.now _ c.last_frame-frame.result c.args.regs.now c.args.r c.args.value
    c.last_frame-frame.ensures c.save.ensures (sym c.number.ensures.value ∙ c.in-16.is)

pub returns-in-17-clause-user : goal.returns-in-17-clause-user
returns-in-17-clause-user c =
    user_regs-saved_17 c.args.self.now _ c.last_frame-frame.result c.args.regs.now c.args.r c.args.value
    c.last_frame-frame.ensures c.save-in-17.ensures (sym c.number.ensures.value ∙ c.in-17.is)

pub returns-in-18-clause-user : goal.returns-in-18-clause-user
returns-in-18-clause-user c =
    user_regs-saved_18 c.args.self.now _ c.last_frame-frame.result c.args.regs.now c.args.r c.args.value
    c.last_frame-frame.ensures c.save-in-18.ensures (sym c.number.ensures.value ∙ c.in-18.is)

pub returns-in-29-clause-user : goal.returns-in-29-clause-user
returns-in-29-clause-user c =
    user_regs-saved_29 c.args.self.now _ c.last_frame-frame.result c.args.regs.now c.args.r c.args.value
    c.last_frame-frame.ensures c.save-in-29.ensures (sym c.number.ensures.value ∙ c.in-29.is)

pub returns-in-30-clause-user : goal.returns-in-30-clause-user
returns-in-30-clause-user c =
    user_regs-saved_30 c.args.self.now _ c.args.regs.now c.args.r c.args.value
    (ap (λ (k : KernelState). record k { user_stack = c.args.value }) c.self.view_is)
    (sym c.number.ensures.value ∙ c.in-30.is)

pub returns-in_default-clause-user : goal.returns-in_default-clause-user
returns-in_default-clause-user c =
    let n16 : c.args.r ≢ 16 = omega (arith, c.number.ensures.value) in
    let n17 : c.args.r ≢ 17 = omega (arith, c.number.ensures.value) in
    let n18 : c.args.r ≢ 18 = omega (arith, c.number.ensures.value) in
    let n29 : c.args.r ≢ 29 = omega (arith, c.number.ensures.value) in
    let n30 : c.args.r ≢ 30 = omega (arith, c.number.ensures.value) in
    ap (user_regs c.args.self.now) c.set.ensures.value
    ∙ put_live-user_regs c.args.self.now c.args.regs.now c.args.r c.args.value n16 n17 n18 n29 n30
