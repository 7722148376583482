use Rattle.std.proofs.Common.{arith}
use Rattle.alpha_asm.proofs.DataValues.{AddsCells-string_byte}
use Rattle.alpha_asm.proofs.output.Output.push_byte.Goals as goal

pub returns : goal.returns
returns c =
    AddsCells-string_byte c.args.line c.args.byte c.args.self.now c.push.new.self
    (omega (arith, c.ranges.byte.fits)) c.in_ok-push.ensures
