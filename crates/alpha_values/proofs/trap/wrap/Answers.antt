use Rattle.std.proofs.Common.{rules}
use Rattle.std.proofs.lemmas.Int.{wraps}
use Rattle.alpha_values.proofs.trap.wrap.Goals as goal

pub returns-in-AddlV : goal.returns-in-AddlV
returns-in-AddlV c = search (rules, wraps)

pub returns-in-SublV : goal.returns-in-SublV
returns-in-SublV c = search (rules, wraps, c.from-in-SublV.ensures)

pub returns-in-AddqV : goal.returns-in-AddqV
returns-in-AddqV c = search (rules, wraps)

pub returns-in-SubqV : goal.returns-in-SubqV
returns-in-SubqV c = search (rules, wraps)
