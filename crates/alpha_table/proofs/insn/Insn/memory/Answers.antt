use Rattle.std.proofs.Common.{◌≡◌, to_z, of_z, rules}
use Rattle.std.specs.Int.{w16}
use Rattle.std.proofs.lemmas.Int.{to_z-of_z}
use Rattle.alpha_table.specs.declared.form.Form.TheVariants.{Mem}
use Rattle.alpha_table.proofs.DecodedInsns.{Row-deterministic}
use Rattle.alpha_table.proofs.InsnForms.{Row-Decodes}
use Rattle.alpha_table.proofs.insn.Insn.memory.Goals as goal

pub at-requires : goal.at-requires
at-requires c =
    let plain : to_z w16 (of_z w16 c.args.disp) ≡ c.args.disp = to_z-of_z w16 c.args.disp (search rules) in
    Row-Decodes c.memory.result (Mem c.args.op c.args.ra c.args.rb c.args.disp) (rw plain at c.memory.ensures)

pub returns : goal.returns
returns c =
    let plain : to_z w16 (of_z w16 c.args.disp) ≡ c.args.disp = to_z-of_z w16 c.args.disp (search rules) in
    Row-deterministic c.memory.result c.at.result (Mem c.args.op c.args.ra c.args.rb c.args.disp) c.at.ensures
    (rw plain at c.memory.ensures)
