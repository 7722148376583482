use Rattle.alpha_trap.proofs.HandlerEffect.{handled-entry}
use Rattle.alpha_trap.proofs.laws.laws_of_reports.Goals as goal

pub returns : goal.returns
returns c = handled-entry
