use Rattle.alpha_imprecise.proofs.ImpreciseFastStepLaws.{ImprecisePassingSteps-fast}
use Rattle.alpha_imprecise.proofs.wild.Wild.run_fast.Goals as goal

pub returns-clause-went : goal.returns-clause-went
returns-clause-went c =
    ImprecisePassingSteps-fast c.run_on.result c.args.self.now c.run_on.new.self c.run_on.ensures.went
