use Rattle.std.proofs.Common.{refl, ap, ◌∙◌}
use Rattle.alpha_io.specs.Supply.{supply}
use Rattle.alpha_words.specs.Regs.{reg, put}
use Rattle.alpha_pal.proofs.PalCalls.{imb_goes_on, rdunique-CallReturns, wrunique_goes_on, bpt-call_signals}
use Rattle.alpha_pal.proofs.PalCalls.{bugchk_signals}
use Rattle.alpha_pal.proofs.PalCalls.{gentrap_signals}
use Rattle.alpha_pal.proofs.kernel.Kernel.call.Goals as goal

pub returns-in-Bpt-clause-effect : goal.returns-in-Bpt-clause-effect
returns-in-Bpt-clause-effect g c =
    rw c.in-Bpt.is (bpt-call_signals c.args.regs.now c.args.mem.now c.args.unique.now, refl)

pub returns-in-Bugchk-clause-effect : goal.returns-in-Bugchk-clause-effect
returns-in-Bugchk-clause-effect g c =
    rw c.in-Bugchk.is (bugchk_signals c.args.regs.now c.args.mem.now c.args.unique.now, refl)

pub returns-in-Gentrap-clause-effect : goal.returns-in-Gentrap-clause-effect
returns-in-Gentrap-clause-effect g c =
    rw c.in-Gentrap.is (gentrap_signals c.args.regs.now c.args.mem.now c.args.unique.now, refl)

pub returns-in-Imb-clause-effect : goal.returns-in-Imb-clause-effect
returns-in-Imb-clause-effect g c =
    rw c.in-Imb.is
    (imb_goes_on c.args.regs.now c.args.mem.now c.args.unique.now (supply g.S.Source c.args.input.now)
    (g.K.Sink.written c.args.out.now))

pub returns-in-Rdunique-clause-effect : goal.returns-in-Rdunique-clause-effect
returns-in-Rdunique-clause-effect g c =
    rw c.in-Rdunique.is
    (rdunique-CallReturns c.args.regs.now c.set.new.self c.args.mem.now c.args.unique.now
    (supply g.S.Source c.args.input.now) (g.K.Sink.written c.args.out.now)
    (c.set.ensures.value ∙ ap (λ r. put c.args.regs.now r c.args.unique.now) c.reg_of_number.ensures))

pub returns-in-Wrunique-clause-effect : goal.returns-in-Wrunique-clause-effect
returns-in-Wrunique-clause-effect g c =
    rw c.in-Wrunique.is
    (wrunique_goes_on c.args.regs.now c.args.mem.now c.args.unique.now c.get.result (supply g.S.Source c.args.input.now)
    (g.K.Sink.written c.args.out.now)
    (c.get.ensures.value ∙ ap (reg c.args.regs.now) c.reg_of_number-in-Wrunique.ensures))
