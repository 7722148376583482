use Rattle.std.proofs.Common.{◌≡◌, length, rules}
use Rattle.alpha_shadow.specs.declared.window.Window.{Window}
use Rattle.alpha_shadow.proofs.WindowSteps.{nothing_passed}
use Rattle.alpha_shadow.proofs.window.Window.begin.Goals as goal

pub returns : goal.returns
returns c = λ code.
    let set : length c.empty-self.result.ends ≡ 32 = search rules in
    let used : length c.empty-self-2.result.ends ≡ 32 = search rules in
    let w : Window = record c.close.new.self { set = c.empty-self.result; used = c.empty-self-2.result } in
    nothing_passed code w c.close.ensures.triggers c.close.ensures.loads set c.empty-self.ensures used
    c.empty-self-2.ensures
