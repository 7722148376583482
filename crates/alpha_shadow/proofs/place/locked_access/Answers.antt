use Rattle.std.proofs.Common.{◌≡◌, Some, ap, ◌∙◌, rules}
use Rattle.alpha_table.specs.declared.columns.InsnKind.TheVariants as kinds
use Rattle.alpha_shadow.proofs.BreakingTriggers.{IsFirstThat-window_first, locked_first}
use Rattle.alpha_shadow.proofs.place.locked_access.Goals as goal

pub returns-then-eq : goal.returns-then-eq
returns-then-eq c = λ code at s h.
    let kind : c.args.word.now.kind ≡ kinds.Locked = search rules in
    locked_first code at (h.kind ∙ ap Some kind) c.first.result
    (IsFirstThat-window_first code c.args.window.now at s c.first.result c.first.ensures)
