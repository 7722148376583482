use Rattle.std.proofs.Common.{◌≡◌, ◌≢◌, ◌<◌, ◌≤◌, ℕ, Some, slice_get}
use Rattle.alpha_table.specs.declared.form.Form.{Form}
use Rattle.alpha_table.specs.declared.columns.InsnKind.TheVariants as kinds
use Rattle.alpha_table.specs.Columns.{kind_of}
use Rattle.alpha_shadow.proofs.first_trigger.first_trigger.Given as goal

abbrev pub invariant-loop-place : goal.invariant-loop-place
invariant-loop-place l =
    (k : ℕ) (i : Form) → l.from ≤ k → k < l.place → slice_get l.insns k ≡ Some i → kind_of i ≢ kinds.Trigger
