use Rattle.std.proofs.Common.{◌∙◌}
use Rattle.alpha_rows.proofs.PassingRuns.{PassingSteps-stays, PassingSteps-shapes}
use Rattle.alpha_run.proofs.FastRows.{seq_run_fast-FastSteps}
use Rattle.alpha_run.proofs.by_rows.RowMachineSteps.run_fast.Goals as goal

pub returns-clause-went : goal.returns-clause-went
returns-clause-went c =
    seq_run_fast-FastSteps c.args.barriers c.run_on.result c.args.self.now c.run_on.new.self c.run_on.ensures.went

pub returns-clause-ready : goal.returns-clause-ready
returns-clause-ready c =
    let stays = PassingSteps-stays c.args.barriers c.run_on.result c.args.self.now c.run_on.new.self c.requires
    c.run_on.ensures.went in
    stays.mode ∙ c.requires

pub returns-clause-same : goal.returns-clause-same
returns-clause-same c = record {
  stays =
      PassingSteps-stays c.args.barriers c.run_on.result c.args.self.now c.run_on.new.self c.requires
      c.run_on.ensures.went;
  blocks =
      PassingSteps-shapes c.args.barriers c.run_on.result c.args.self.now c.run_on.new.self c.run_on.ensures.went;
}
