use Rattle.alpha_table.proofs.InsnForms.{IsKnown-Row}
use Rattle.alpha_table.proofs.insn.Insn.form.Goals as goal

pub form_in-requires : goal.form_in-requires
form_in-requires c = (IsKnown-Row c.self.inside c.self.invariant).1
