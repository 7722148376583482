use Rattle.std.proofs.Common.{◌∷◌, ◌++◌, [], ◌∙◌}
use Rattle.alpha_dis.specs.Written.{before}
use Rattle.alpha_dis.proofs.PutPieces.{PAIRS_at}
use Rattle.alpha_dis.proofs.pieces.put_pair.Goals as goal

pub returns-clause-value : goal.returns-clause-value
returns-clause-value c =
    let (tens, ones) = PAIRS_at c.args.number c.requires.small in
    c.put.ensures.value
    ∙ (λ i. before c.args.at c.args.bytes.now ++ (tens i ∷ ones i ∷ []))
