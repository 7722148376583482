use Rattle.std.proofs.Common.{sym, ap}
use Rattle.std.specs.Option.{option_map}
use Rattle.alpha_shadow.specs.Window.{place_of}
use Rattle.alpha_shadow.proofs.BreakingTriggers.{find-empty_range}
use Rattle.alpha_shadow.proofs.window.Window.first_within.Goals as goal

pub returns-then-to-from : goal.returns-then-to-from
returns-then-to-from c =
    sym
    (ap (option_map place_of) (find-empty_range c.args.from c.args.to c.if-to-from.true c.args.self.now.triggers.items))
