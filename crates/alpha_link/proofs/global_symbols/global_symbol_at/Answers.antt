use Rattle.std.proofs.Common.{sym, ◌∙◌}
use Rattle.alpha_link.proofs.AreEntered.{global_symbols-get_here, global_symbols-get_past, global_symbols-get_end}
use Rattle.alpha_link.proofs.global_symbols.global_symbol_at.Goals as goal

pub returns-then-rest-count : goal.returns-then-rest-count
returns-then-rest-count c =
    c.global_symbol_in.ensures
    ∙ global_symbols-get_here c.args.places.now c.loop-located.located-index c.located-item.result c.loop-located.rest
    c.count_of-count.result _ c.loop-located-test.true c.located-item.is c.count_of-count.ensures
    c.if-rest-count.true c.loop-located.invariant

pub loop-located-preserved : goal.loop-located-preserved
loop-located-preserved c =
    global_symbols-get_past c.args.places.now c.loop-located.located-index c.located-item.result c.loop-located.rest
    c.count_of-count.result _ c.loop-located-test.true c.located-item.is c.count_of-count.ensures
    c.if-rest-count.false c.loop-located.invariant

pub returns : goal.returns
returns c =
    sym (global_symbols-get_end c.args.places.now c.loop-located.located-index c.loop-located.rest _
    c.loop-located-test.false
    c.loop-located.invariant)
