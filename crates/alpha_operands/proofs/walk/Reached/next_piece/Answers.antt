use Rattle.alpha_operands.proofs.Reached.{HasBehind-take}
use Rattle.alpha_operands.proofs.walk.Reached.next_piece.Goals as goal

pub returns-in-Some-clause-behind : goal.returns-in-Some-clause-behind
returns-in-Some-clause-behind c =
    let (inside, read) = c.in-Some.ensures.lookup.3 in
    HasBehind-take c.args.self.now.pattern.now c.args.self.now.pieces c.in-Some.piece.now inside
    (read c.in-Some.piece.now)
