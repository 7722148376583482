use Rattle.std.proofs.Common.{◌≢◌, ap, sym, ◌∙◌, arith}
use Rattle.alpha_words.specs.Regs.{reg}
use Rattle.alpha_pal.specs.Kernel.{user_regs}
use Rattle.alpha_pal.proofs.Registers.{reg_16-user_regs, reg_17-user_regs, reg_18-user_regs, reg_29-user_regs}
use Rattle.alpha_pal.proofs.Registers.{reg_30-user_regs, reg-user_regs}
use Rattle.alpha_pal.proofs.kernel.Kernel.user_reg.Goals as goal

pub returns-in-16 : goal.returns-in-16
returns-in-16 c =
    ap (λ f. f.r16) c.last_frame-frame.ensures
    ∙ (sym (reg_16-user_regs c.args.self.now c.args.regs.now c.get-live.ensures.file.size)
    ∙ ap (λ r. reg (user_regs c.args.self.now c.args.regs.now) r) (sym c.in-16.is ∙ c.number.ensures.value))

pub returns-in-17 : goal.returns-in-17
returns-in-17 c =
    ap (λ f. f.r17) c.last_frame-frame.ensures
    ∙ (sym (reg_17-user_regs c.args.self.now c.args.regs.now c.get-live.ensures.file.size)
    ∙ ap (λ r. reg (user_regs c.args.self.now c.args.regs.now) r) (sym c.in-17.is ∙ c.number.ensures.value))

pub returns-in-18 : goal.returns-in-18
returns-in-18 c =
    ap (λ f. f.r18) c.last_frame-frame.ensures
    ∙ (sym (reg_18-user_regs c.args.self.now c.args.regs.now c.get-live.ensures.file.size)
    ∙ ap (λ r. reg (user_regs c.args.self.now c.args.regs.now) r) (sym c.in-18.is ∙ c.number.ensures.value))

pub returns-in-29 : goal.returns-in-29
returns-in-29 c =
    ap (λ f. f.gp) c.last_frame-frame.ensures
    ∙ (sym (reg_29-user_regs c.args.self.now c.args.regs.now c.get-live.ensures.file.size)
    ∙ ap (λ r. reg (user_regs c.args.self.now c.args.regs.now) r) (sym c.in-29.is ∙ c.number.ensures.value))

pub returns-in-30 : goal.returns-in-30
returns-in-30 c =
    ap (λ k. k.user_stack) c.self.view_is
    ∙ (sym (reg_30-user_regs c.args.self.now c.args.regs.now c.get-live.ensures.file.size)
    ∙ ap (λ r. reg (user_regs c.args.self.now c.args.regs.now) r) (sym c.in-30.is ∙ c.number.ensures.value))

pub returns-in_default : goal.returns-in_default
returns-in_default c =
    let n16 : c.args.r ≢ 16 = omega (arith, c.number.ensures.value) in
    let n17 : c.args.r ≢ 17 = omega (arith, c.number.ensures.value) in
    let n18 : c.args.r ≢ 18 = omega (arith, c.number.ensures.value) in
    let n29 : c.args.r ≢ 29 = omega (arith, c.number.ensures.value) in
    let n30 : c.args.r ≢ 30 = omega (arith, c.number.ensures.value) in
    c.get-live.ensures.value ∙ sym (reg-user_regs c.args.self.now c.args.regs.now c.args.r n16 n17 n18 n29 n30)
