use Rattle.alpha_table.specs.declared.form.Form.TheVariants.{Operate}
use Rattle.alpha_table.proofs.DecodedInsns.{Row-deterministic}
use Rattle.alpha_table.proofs.InsnForms.{Row-Decodes}
use Rattle.alpha_table.proofs.insn.Insn.operate.Goals as goal

pub at-requires : goal.at-requires
at-requires c =
    Row-Decodes c.operate.result (Operate c.args.op c.args.ra c.args.src c.args.rc) (c.operate.ensures)

pub returns : goal.returns
returns c =
    Row-deterministic c.operate.result c.at.result (Operate c.args.op c.args.ra c.args.src c.args.rc) c.at.ensures
    (c.operate.ensures)
