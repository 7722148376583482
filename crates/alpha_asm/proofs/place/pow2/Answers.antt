use Rattle.std.proofs.Common.{◌^◌, ◌≤◌, lit<, arith}
use Rattle.std.proofs.Math.Nat.{pow-le-pow_right, one-le-pow}
use Rattle.alpha_asm.proofs.place.pow2.Goals as goal

pub returns-clause-least : goal.returns-clause-least
returns-clause-least c =
    let most : 2 ^ c.args.n ≤ 2 ^ 13 = pow-le-pow_right (lit< tt) c.requires in
    let least : 1 ≤ 2 ^ c.args.n = one-le-pow c.args.n 2 (lit< tt) in
    omega arith

pub returns-clause-most : goal.returns-clause-most
returns-clause-most c =
    let most : 2 ^ c.args.n ≤ 2 ^ 13 = pow-le-pow_right (lit< tt) c.requires in
    omega arith
