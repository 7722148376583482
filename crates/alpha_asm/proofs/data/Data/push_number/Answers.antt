use Rattle.alpha_asm.proofs.DataValues.{low_bytes-push_next, low_bytes-push_end}
use Rattle.alpha_asm.proofs.data.Data.push_number.Goals as goal

pub loop-preserved : goal.loop-preserved
loop-preserved c = low_bytes-push_next _ _ _ _ _ _ c.loop-test.true c.loop.invariant c.in_ok-push.ensures

pub returns : goal.returns
returns c = low_bytes-push_end _ _ _ _ _ c.loop-test.false c.loop.invariant
