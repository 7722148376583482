use Rattle.std.proofs.Common.{sym}
use Rattle.alpha_operands.specs.Names.{registers}
use Rattle.alpha_operands.proofs.Registers.{named-HasRow, registers-first}
use Rattle.alpha_operands.proofs.names.register_number.Goals as goal

pub returns-in-Some : goal.returns-in-Some
unfolding registers
returns-in-Some c =
    sym (named-HasRow registers registers c.args.name.now c.in-Some.number registers-first c.in-Some.ensures)

pub returns-in-None : goal.returns-in-None
unfolding registers
returns-in-None c = c.find_number.ensures
