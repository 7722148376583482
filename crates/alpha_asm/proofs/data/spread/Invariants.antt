use Rattle.alpha_asm.proofs.DataGaps.{Spreads}
use Rattle.alpha_asm.proofs.data.spread.Given as goal

abbrev pub invariant-loop-gap : goal.invariant-loop-gap
invariant-loop-gap l = Spreads l.gaps l.bytes.items l.gap-index l.all.items l.rest
