use Rattle.std.proofs.Common.{arith}
use Rattle.alpha_table.proofs.DecodedInsns.{Row-injective, IsInsn-Row}
use Rattle.alpha_table.proofs.InsnWords.{encoded-Row}
use Rattle.alpha_table.proofs.encoder.encode.Goals as goal

pub returns-clause-only : goal.returns-clause-only
returns-clause-only c = λ w small row. Row-injective w _ _ small (omega arith) row c.word.ensures

pub returns-clause-value : goal.returns-clause-value
returns-clause-value c =
    let e = encoded-Row _ (IsInsn-Row _ _ c.word.ensures) in
    Row-injective _ _ _ (omega arith) e.0 c.word.ensures e.1
