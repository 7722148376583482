use Rattle.alpha_io.specs.Supply.{supply}
use Rattle.alpha_imprecise.specs.ImpreciseState.{imprecise_state}
use Rattle.alpha_imprecise.proofs.RunConcatenation.{steps_alone-join}
use Rattle.alpha_imprecise.proofs.step.step.Goals as goal

pub returns-in-Some-clause-made : goal.returns-in-Some-clause-made
returns-in-Some-clause-made g c =
    let chose = c.step_with_pending.ensures.made in
    record {
      choice = chose.choice;
      effect =
          steps_alone-join c.step_with_pending.result (imprecise_state c.args.machine.now c.args.pending.now)
          (imprecise_state c.step_with_pending.new.machine c.step_with_pending.new.pending) chose.choice
          (supply g.S.Source c.args.input.now) (g.K.Sink.written c.args.out.now) (g.S.Source.faults c.args.input.now)
          (g.K.Sink.faults c.args.out.now) chose.effect;
      picked = chose.picked;
    }
