use Rattle.std.proofs.Common.{◌≡◌, length, rules}
use Rattle.alpha_shadow.specs.declared.window.Window.{Window}
use Rattle.alpha_shadow.proofs.WindowSteps.{nothing_passed}
use Rattle.alpha_shadow.proofs.window.Window.empty.Goals as goal

pub returns : goal.returns
returns c = λ code.
    let set : length c.empty-3.result.ends ≡ 32 = search rules in
    let used : length c.empty-4.result.ends ≡ 32 = search rules in
    let w : Window =
    record { triggers = c.empty.result; loads = c.empty-2.result; set = c.empty-3.result; used = c.empty-4.result } in
    nothing_passed code w c.empty.ensures c.empty-2.ensures set c.empty-3.ensures used c.empty-4.ensures
