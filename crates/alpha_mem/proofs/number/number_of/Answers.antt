use Rattle.std.proofs.Common.{arith}
use Rattle.alpha_mem.proofs.Numbers.{little-one, little-two, little-four, little-eight}
use Rattle.alpha_mem.proofs.number.number_of.Goals as goal

pub returns-in-len1 : goal.returns-in-len1
returns-in-len1 c = omega (arith, c.from.ensures, little-one c.args.bytes.now (omega arith))

pub returns-in-len2 : goal.returns-in-len2
returns-in-len2 c =
    omega (arith, c.from-in-len2.ensures, c.from_le_bytes.ensures, little-two c.args.bytes.now (omega arith))

pub returns-in-len4 : goal.returns-in-len4
returns-in-len4 c =
    omega (arith, c.from-in-len4.ensures, c.from_le_bytes-in-len4.ensures, little-four c.args.bytes.now (omega arith))

pub returns-in-len8 : goal.returns-in-len8
returns-in-len8 c = omega (arith, c.from_le_bytes-in-len8.ensures, little-eight c.args.bytes.now (omega arith))
