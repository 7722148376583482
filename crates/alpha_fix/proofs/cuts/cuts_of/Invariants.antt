use Rattle.std.proofs.Common.{◌-◌, length}
use Rattle.alpha_fix.proofs.CutSteps.{CutsUpTo}
use Rattle.alpha_fix.proofs.cuts.cuts_of.Given as goal

abbrev pub invariant-loop-broken : goal.invariant-loop-broken
invariant-loop-broken l = CutsUpTo l.image.words l.cuts.items l.from

abbrev pub decreases-loop-broken : goal.decreases-loop-broken
decreases-loop-broken l = length l.image.words - l.from
