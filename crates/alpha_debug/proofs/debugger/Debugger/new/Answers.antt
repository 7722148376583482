use Rattle.alpha_debug.proofs.Sessions.{IsOpened-made}
use Rattle.alpha_debug.proofs.debugger.Debugger.new.Goals as goal

pub returns : goal.returns
returns c =
    IsOpened-made c.args.image c.in_ok-machine.machine c.new-2.result c.new-3.result c.verdict_of-verdict.result
    c.new-3.ensures c.in_ok-machine.ensures.program c.in_ok-machine.ensures.start c.in_ok-machine.ensures.kernel
    c.new-2.ensures c.verdict_of-verdict.ensures
