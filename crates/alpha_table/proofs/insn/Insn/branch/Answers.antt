use Rattle.std.proofs.Common.{◌≡◌, to_z, of_z, rules}
use Rattle.std.specs.Int.{w32}
use Rattle.std.proofs.lemmas.Int.{to_z-of_z}
use Rattle.alpha_table.specs.declared.form.Form.TheVariants.{Branch}
use Rattle.alpha_table.proofs.DecodedInsns.{Row-deterministic}
use Rattle.alpha_table.proofs.InsnForms.{Row-Decodes}
use Rattle.alpha_table.proofs.insn.Insn.branch.Goals as goal

pub at-requires : goal.at-requires
at-requires c =
    let plain : to_z w32 (of_z w32 c.args.disp) ≡ c.args.disp = to_z-of_z w32 c.args.disp (search rules) in
    Row-Decodes c.branch-op.result (Branch c.args.op c.args.ra c.args.disp) (rw plain at c.branch-op.ensures)

pub returns : goal.returns
returns c =
    let plain : to_z w32 (of_z w32 c.args.disp) ≡ c.args.disp = to_z-of_z w32 c.args.disp (search rules) in
    Row-deterministic c.branch-op.result c.at.result (Branch c.args.op c.args.ra c.args.disp) c.at.ensures
    (rw plain at c.branch-op.ensures)
