use Rattle.std.proofs.Common.{subst}
use Rattle.alpha_table.specs.Row.{Row}
use Rattle.alpha_table.proofs.InsnForms.{IsKnown-Row}
use Rattle.alpha_table.proofs.insn.Insn.word.Goals as goal

pub returns : goal.returns
returns c = subst (Row c.self.inside.word.0) c.self.view_is (IsKnown-Row c.self.inside c.self.invariant).0
