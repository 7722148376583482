use Rattle.std.proofs.Common.{Option, sym, subst, ◌∙◌}
use Rattle.alpha_seq.specs.Machine.{Stays}
use Rattle.alpha_rows.proofs.PassingRuns.{PassingSteps-stays}
use Rattle.alpha_imprecise.specs.declared.pending.Pending.{Pending}
use Rattle.alpha_imprecise.specs.ImpreciseState.{ImpreciseState, imprecise_state}
use Rattle.alpha_imprecise.specs.ImpreciseFastSteps.{ImprecisePassingSteps}
use Rattle.alpha_imprecise.proofs.ImpreciseFastStepLaws.{PassingSteps-imprecise}
use Rattle.alpha_imprecise.proofs.wild.Wild.run_on.Goals as goal

pub invariant_of-self : goal.invariant_of-self
invariant_of-self c =
    let stays = PassingSteps-stays c.args.barriers c.run_machine.result c.self.inside.machine c.run_machine.new.machine
    c.self.invariant.0 c.run_machine.ensures.went in
    (stays.mode ∙ c.self.invariant.0, c.self.invariant.1, c.run_machine.ensures.rows)

pub returns-in-None-clause-went : goal.returns-in-None-clause-went
returns-in-None-clause-went c =
    let m = c.self.inside.machine in
    let new = c.run_machine.new.machine in
    let n = c.run_machine.result in
    let b = c.args.barriers in
    subst (λ (w : ImpreciseState). ImprecisePassingSteps b n w (imprecise_state new c.self.inside.pending))
    c.self.view_is
    (subst (λ (p : Option Pending). ImprecisePassingSteps b n (imprecise_state m p) (imprecise_state new p))
    (sym c.in-None.is) (PassingSteps-imprecise b n m new c.run_machine.ensures.went))

pub returns-in-None-clause-same : goal.returns-in-None-clause-same
returns-in-None-clause-same c =
    subst (λ (w : ImpreciseState). Stays w.machine c.run_machine.new.machine) c.self.view_is
    (PassingSteps-stays c.args.barriers c.run_machine.result c.self.inside.machine c.run_machine.new.machine
    c.self.invariant.0 c.run_machine.ensures.went)
