use Rattle.std.proofs.Common.{All, take}
use Rattle.alpha_table.specs.Row.{IsInsn}
use Rattle.alpha_asm.proofs.program.insns_fit.Given as goal

abbrev pub invariant-loop-insn : goal.invariant-loop-insn
invariant-loop-insn l = All IsInsn (take l.insn-index l.code)
