use Rattle.std.proofs.Common.{sym}
use Rattle.alpha_quick.proofs.data.value.Goals as goal

pub returns : goal.returns
returns c = (c.in_ok-sign.sign, c.in_ok-sign.n, c.in_ok-sign.ensures, sym c.in_ok-value.ensures)
