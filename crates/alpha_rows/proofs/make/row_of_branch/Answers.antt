use Rattle.std.proofs.Common.{◌≡◌, ◌+◌, ◌+ℤ◌, ℤ, pos, refl, ap, ◌∙◌}
use Rattle.std.specs.Int.{w32}
use Rattle.std.proofs.lemmas.Int.{to_z-of_z}
use Rattle.alpha_table.specs.declared.form.Form.TheVariants.{Branch}
use Rattle.alpha_table.specs.Rows.{branch_row}
use Rattle.alpha_rows.proofs.RowsOfWords.{Denotes-branch}
use Rattle.alpha_rows.proofs.make.row_of_branch.Goals as goal

pub returns : goal.returns
returns c =
    let a = c.args in
    let there : pos c.in-Some.target ≡ pos (a.place + 1) +ℤ a.disp =
    c.in-Some.ensures.there ∙ ap (λ (d : ℤ). pos (a.place + 1) +ℤ d) (to_z-of_z w32 a.disp c.ranges.disp) in
    Denotes-branch (branch_row a.op).condition a.ra c.branch_op.result _ a.words a.place
    (Branch a.op a.ra a.disp) a.disp c.branch_op.ensures refl refl c.ranges.disp there c.in-Some.ensures.within
