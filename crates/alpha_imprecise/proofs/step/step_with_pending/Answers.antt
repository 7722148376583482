use Rattle.std.proofs.Common.{None, Some}
use Rattle.alpha_table.specs.ClassOf.{class_of}
use Rattle.alpha_imprecise.specs.ImpreciseState.{imprecise_state}
use Rattle.alpha_imprecise.specs.ImpreciseStepEffect.{StepsAs}
use Rattle.alpha_imprecise.proofs.ChoiceRequests.{pick-chose, forced-chose}
use Rattle.alpha_imprecise.proofs.step.step_with_pending.Goals as goal

pub returns-in-Some-pick-clause-made : goal.returns-in-Some-pick-clause-made
returns-in-Some-pick-clause-made g c =
    let m = c.args.machine.now in
    pick-chose g.P.ChoiceSource.gives_pick g.P.ChoiceSource.values m c.args.pending.now c.args.trap.now
    (class_of c.in-Some.insn) (Some c.in-Some-pick.choice) c.args.choices.now c.pick.new.self
    (StepsAs c.wait.result (imprecise_state m c.args.pending.now)
    (imprecise_state c.wait.new.machine c.wait.new.pending))
    c.requires.trap c.in-Some.ensures.found c.in-Some.ensures.few c.in-Some-pick.ensures c.wait.ensures.step

pub returns-in-Some-pick-clause-program : goal.returns-in-Some-pick-clause-program
returns-in-Some-pick-clause-program g c = c.wait.ensures.step.steps.program

pub returns-in-None-pick-clause-made : goal.returns-in-None-pick-clause-made
returns-in-None-pick-clause-made g c =
    let m = c.args.machine.now in
    pick-chose g.P.ChoiceSource.gives_pick g.P.ChoiceSource.values m c.args.pending.now c.args.trap.now
    (class_of c.in-Some.insn) None c.args.choices.now c.pick.new.self
    (StepsAs c.report.result (imprecise_state m c.args.pending.now)
    (imprecise_state c.report.new.machine c.report.new.pending))
    c.requires.trap c.in-Some.ensures.found c.in-Some.ensures.few c.in-None-pick.ensures c.report.ensures.step

pub returns-in-None-pick-clause-program : goal.returns-in-None-pick-clause-program
returns-in-None-pick-clause-program g c = c.report.ensures.step.steps.program

pub returns-in-None-clause-made : goal.returns-in-None-clause-made
returns-in-None-clause-made g c =
    let m = c.args.machine.now in
    forced-chose g.P.ChoiceSource.gives_pick g.P.ChoiceSource.values m c.args.pending.now c.args.trap.now
    c.args.choices.now
    (StepsAs c.report-in-None.result (imprecise_state m c.args.pending.now)
    (imprecise_state c.report-in-None.new.machine c.report-in-None.new.pending))
    c.requires.trap c.in-None.ensures.none c.report-in-None.ensures.step

pub returns-in-None-clause-program : goal.returns-in-None-clause-program
returns-in-None-clause-program g c = c.report-in-None.ensures.step.steps.program
