use Rattle.alpha_rows.proofs.PassingRuns.{FastSteps-passing}
use Rattle.alpha_imprecise.proofs.wild.run_machine.Goals as goal

pub returns-in-None-clause-went : goal.returns-in-None-clause-went
returns-in-None-clause-went c =
    FastSteps-passing c.args.barriers c.run_fast-in-None.result c.args.machine.now c.run_fast-in-None.new.self
    c.run_fast-in-None.ensures.went
