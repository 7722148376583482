use Rattle.alpha_run.proofs.FastRows.{imprecise_run_fast-FastSteps}
use Rattle.alpha_run.proofs.imprecise.WildSteps.run_fast.Goals as goal

pub returns-clause-went : goal.returns-clause-went
returns-clause-went c =
    imprecise_run_fast-FastSteps c.args.barriers c.run_on.result c.args.self.now c.run_on.new.self
    c.run_on.ensures.went
