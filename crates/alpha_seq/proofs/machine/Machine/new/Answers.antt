use Rattle.alpha_seq.proofs.ImageLoads.{started_state}
use Rattle.alpha_seq.proofs.machine.Machine.new.Goals as goal

pub returns-clause-start : goal.returns-clause-start
returns-clause-start c =
    started_state c.args.image c.args.completion c.in_ok-memory.memory c.start_regs.result c.entry-entry.result
    c.in_ok-memory.ensures c.start_regs.ensures c.entry-entry.ensures.value
