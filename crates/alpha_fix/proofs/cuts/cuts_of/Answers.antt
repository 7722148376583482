use Rattle.alpha_fix.proofs.CutSteps.{CutsUpTo-next, next_cut-decreases, CutsUpTo-AreCuts}
use Rattle.alpha_fix.proofs.cuts.cuts_of.Goals as goal

pub loop-broken-smaller : goal.loop-broken-smaller
loop-broken-smaller c =
    next_cut-decreases c.args.image.now.words c.loop-broken.from c.in-Some.broken c.in-Some.ensures c.if-broken.false

pub loop-broken-preserved : goal.loop-broken-preserved
loop-broken-preserved c =
    CutsUpTo-next c.args.image.now.words c.loop-broken.cuts.items c.push.new.self.items c.loop-broken.from
    c.in-Some.broken
    c.loop-broken.invariant c.in-Some.ensures c.if-broken.false c.in_ok-push.ensures.items

pub returns-clause-ok : goal.returns-clause-ok
returns-clause-ok c =
    CutsUpTo-AreCuts c.args.image.now.words c.loop-broken.cuts.items c.loop-broken.from c.loop-broken.invariant
    (λ trigger at condition since b. c.in_default.ensures trigger at condition since b)
