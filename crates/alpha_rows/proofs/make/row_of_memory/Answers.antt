use Rattle.std.proofs.Common.{◌≡◌, ℤ, sym, ap, ◌∙◌}
use Rattle.std.specs.Int.{w16, cast_unsigned}
use Rattle.std.proofs.lemmas.Int.{to_z-of_z}
use Rattle.alpha_table.specs.declared.form.Form.TheVariants.{Mem}
use Rattle.alpha_values.specs.Numbers.{signed}
use Rattle.alpha_rows.specs.Meaning.{accesses}
use Rattle.alpha_rows.proofs.RowsOfWords.{Denotes-or_leaves, signed-cast_unsigned}
use Rattle.alpha_rows.proofs.make.row_of_memory.Goals as goal

pub returns : goal.returns
returns c = λ n k.
    let a = c.args in
    let disp : signed w16 c.from.result ≡ a.disp = ap (signed w16)
    (c.from.ensures ∙ (c.cast_unsigned.ensures ∙ ap (cast_unsigned w16) (to_z-of_z w16 a.disp c.ranges.disp)))
    ∙ signed-cast_unsigned a.disp c.ranges.disp in
    Denotes-or_leaves c.memory_op.result (accesses a.op) _ n k (Mem a.op a.ra a.rb a.disp) c.memory_op.ensures
    (ap (λ (d : ℤ). Mem a.op a.ra a.rb d) (sym disp))
