use Rattle.alpha_rows.proofs.PassingRuns.{FastSteps-passing, AreRowsOf-stays}
use Rattle.alpha_rows.proofs.program_rows.ProgramRows.run_by_words.Goals as goal

pub returns-clause-went : goal.returns-clause-went
returns-clause-went c =
    FastSteps-passing c.args.barriers c.run_fast-count.result c.args.machine.now c.run_fast-count.new.self
    c.run_fast-count.ensures.went

pub returns-clause-rows : goal.returns-clause-rows
returns-clause-rows c =
    AreRowsOf-stays c.args.barriers c.run_fast-count.result c.args.machine.now c.run_fast-count.new.self c.args.self.now
    (returns-clause-went c) c.requires
