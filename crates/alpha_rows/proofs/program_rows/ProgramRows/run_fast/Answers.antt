use Rattle.alpha_rows.proofs.PassingRuns.{AreRowsOf-stays}
use Rattle.alpha_rows.proofs.program_rows.ProgramRows.run_fast.Goals as goal

pub returns-in-Some-clause-rows : goal.returns-in-Some-clause-rows
returns-in-Some-clause-rows c =
    AreRowsOf-stays c.args.barriers c.run_fast.result c.args.machine.now c.run_fast.new.machine c.args.self.now
    c.run_fast.ensures.went c.requires
