use Rattle.alpha_quick.proofs.Directives.{HasValues-more}
use Rattle.alpha_quick.proofs.data.after_values.Goals as goal

pub loop-preserved : goal.loop-preserved
loop-preserved c =
    λ end has. c.loop.invariant end
    (HasValues-more c.args.piece c.loop.rest.now c.in_ok-behind.behind.now c.in_ok-rest.rest.now end _
    c.in_ok-behind.ensures c.in_ok-rest.ensures has)

pub returns-then-is_end : goal.returns-then-is_end
returns-then-is_end c =
    c.loop.invariant c.in_ok-behind.behind.now (0, (_, c.in_ok-behind.ensures, c.is_end.ensures c.if-is_end.true))
