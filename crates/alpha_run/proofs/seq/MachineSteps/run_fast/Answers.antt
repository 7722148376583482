use Rattle.std.proofs.Common.{◌∙◌}
use Rattle.alpha_seq.proofs.FastRuns.{FastSteps-stays, FastSteps-shapes}
use Rattle.alpha_rows.proofs.PassingRuns.{FastSteps-passing}
use Rattle.alpha_run.proofs.FastRows.{seq_run_fast-FastSteps}
use Rattle.alpha_run.proofs.seq.MachineSteps.run_fast.Goals as goal

pub returns-clause-went : goal.returns-clause-went
returns-clause-went c =
    seq_run_fast-FastSteps c.args._barriers c.run_fast.result c.args.self.now c.run_fast.new.self
    (FastSteps-passing c.args._barriers c.run_fast.result c.args.self.now c.run_fast.new.self c.run_fast.ensures.went)

pub returns-clause-ready : goal.returns-clause-ready
returns-clause-ready c =
    let stays =
    FastSteps-stays c.run_fast.result c.args.self.now c.run_fast.new.self c.requires c.run_fast.ensures.went in
    stays.mode ∙ c.requires

pub returns-clause-same : goal.returns-clause-same
returns-clause-same c = record {
  stays = FastSteps-stays c.run_fast.result c.args.self.now c.run_fast.new.self c.requires c.run_fast.ensures.went;
  blocks = FastSteps-shapes c.run_fast.result c.args.self.now c.run_fast.new.self c.run_fast.ensures.went;
}
