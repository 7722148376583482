use Rattle.alpha_trap.proofs.ScanSteps.{Walked}
use Rattle.alpha_trap.proofs.scan.place_before.Given as goal

abbrev pub invariant-loop-place : goal.invariant-loop-place
invariant-loop-place g l = Walked (g.C.TrapCode.parts l.code).words l.fn.mask l.left l.place l.end
