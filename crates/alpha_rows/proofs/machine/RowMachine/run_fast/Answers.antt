use Rattle.alpha_rows.proofs.PassingRuns.{PassingSteps-fast}
use Rattle.alpha_rows.proofs.machine.RowMachine.run_fast.Goals as goal

pub returns-clause-went : goal.returns-clause-went
returns-clause-went c =
    PassingSteps-fast c.run_on.result c.args.self.now c.run_on.new.self c.run_on.ensures.went
