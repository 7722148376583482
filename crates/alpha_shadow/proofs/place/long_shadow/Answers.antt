use Rattle.std.proofs.Common.{◌+◌, ◌<◌, ◌≤◌, inl, arith, subst, sym}
use Rattle.alpha_shadow.specs.declared.broken.Condition.TheVariants.{Long}
use Rattle.alpha_shadow.specs.Window.{IsFirstThat}
use Rattle.alpha_shadow.specs.Place.{IsFirstBroken}
use Rattle.alpha_shadow.proofs.BreakingTriggers.{IsFirstThat-window_first}
use Rattle.alpha_shadow.proofs.LongShadows.{long_found, long_missing, none_long}
use Rattle.alpha_shadow.proofs.place.long_shadow.Goals as goal

pub returns-in_err-first : goal.returns-in_err-first
returns-in_err-first c = λ code s u within other.
    subst (IsFirstBroken code c.args.at Long) (sym c.from_residual.ensures)
    (none_long code c.args.at (inl (subst (IsFirstThat code c.args.at (λ p. Unit {0})) c.in_err-first.was
    (IsFirstThat-window_first code c.args.window.now c.args.at s c.first.result c.first.ensures))))

pub returns-then-from : goal.returns-then-from
returns-then-from c = λ code s u within other.
    let at = c.args.at in
    let first = c.in_ok-first.first in
    let f = subst (IsFirstThat code at (λ p. Unit {0})) c.in_ok-first.was
    (IsFirstThat-window_first code c.args.window.now at s c.first.result c.first.ensures) in
    let past : first + 1025 ≤ at = omega arith in
    long_found code at first u within other f past

pub returns-else-from : goal.returns-else-from
returns-else-from c = λ code s u within other.
    let at = c.args.at in
    let first = c.in_ok-first.first in
    let f = subst (IsFirstThat code at (λ p. Unit {0})) c.in_ok-first.was
    (IsFirstThat-window_first code c.args.window.now at s c.first.result c.first.ensures) in
    let less : at < first + 1025 = omega arith in
    long_missing code at first u within other f less
