use Rattle.std.proofs.Common.{arith}
use Rattle.alpha_table.proofs.InsnForms.{IsKnown-decoded}
use Rattle.alpha_table.proofs.insn.Insn.at.Goals as goal

pub invariant_of-result : goal.invariant_of-result
invariant_of-result c = IsKnown-decoded (record { row = c.args.row; word = c.args.word }) (omega arith) c.requires
