use Rattle.std.proofs.Common.{◌≤◌, rules}
use Rattle.alpha_imprecise.proofs.Masks.{with_register-members}
use Rattle.alpha_imprecise.proofs.step.mask_with.Goals as goal

pub returns : goal.returns
returns c =
    let within : c.args.r ≤ 31 = search rules in
    with_register-members c.args.mask c.args.r _ within c.with.ensures
