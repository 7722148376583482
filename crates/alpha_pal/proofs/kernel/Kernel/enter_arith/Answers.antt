use Rattle.std.proofs.Common.{◌≡◌, rules}
use Rattle.alpha_pal.specs.Kernel.{arith_frame, entered, arith_regs}
use Rattle.alpha_pal.proofs.Registers.{user_regs-after_entry}
use Rattle.alpha_pal.proofs.kernel.Kernel.enter_arith.Goals as goal

pub returns-clause-user : goal.returns-clause-user
returns-clause-user c =
    let state : c.enter.new.self ≡ entered (arith_frame c.args.pc c.args.regs.now) c.args.regs.now = search rules in
    let live : c.set-2.new.self ≡ arith_regs c.args.regs.now c.args.mask = search rules in
    user_regs-after_entry _ c.args.regs.now _ c.args.pc c.args.mask c.enter.ensures.file.size state live
