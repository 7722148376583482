use Rattle.std.proofs.Common.{List, ℕ, length, length-take, ap, arith}
use Rattle.alpha_dis.proofs.block.Block.push_code.Goals as goal

pub invariant_of-self : goal.invariant_of-self
invariant_of-self c =
    let held = length-take c.self.inside.len c.self.inside.bytes in
    let same = ap (λ (l : List ℕ). length l) c.self.view_is in
    (omega (arith, held, same, c.self.invariant.0, c.self.invariant.1), c.put_code-self-inside.ensures.room)
