use Rattle.alpha_names.proofs.NameValues.{position-slice_get}
use Rattle.alpha_asm.proofs.label.Labels.number.Goals as goal

pub returns-clause-number : goal.returns-clause-number
returns-clause-number c = position-slice_get c.args.self.now.names c.args.name.now c.number.result c.number.ensures
