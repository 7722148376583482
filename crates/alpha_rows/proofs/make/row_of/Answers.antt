use Rattle.std.proofs.Common.{◌≡◌, ℤ, ap, subst, ◌∙◌, arith}
use Rattle.std.specs.Int.{w16, cast_signed, cast_unsigned}
use Rattle.std.proofs.lemmas.Int.{to_z-of_z}
use Rattle.alpha_table.specs.declared.form.Form.{Form}
use Rattle.alpha_table.specs.declared.form.Form.TheVariants.{Mem}
use Rattle.alpha_rows.specs.Meaning.{meaning_of, Denotes}
use Rattle.alpha_rows.proofs.make.row_of.Goals as goal

pub returns-in-Mem : goal.returns-in-Mem
returns-in-Mem c =
    let i = c.in-Mem in
    let a = c.args in
    let passed : ℤ = cast_signed w16 (cast_unsigned w16 i.disp) in
    let same : passed ≡ i.disp = grind (arith, to_z-of_z) in
    subst (λ (f : Form). Denotes (meaning_of c.row_of_memory.result.op) c.row_of_memory.result a.words a.place f)
    (ap (λ (d : ℤ). Mem i.op i.ra i.rb d) same ∙ i.ensures.value)
    (c.row_of_memory.ensures a.words a.place)
