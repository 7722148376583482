use Rattle.std.proofs.Common.{◌++◌, List, ℕ, sym, ap, ◌∙◌}
use Rattle.std.proofs.lemmas.Fmt.{decimal_digit}
use Rattle.alpha_dis.specs.Written.{before}
use Rattle.alpha_dis.proofs.PutPieces.{decimal_two}
use Rattle.alpha_dis.proofs.pieces.put_small.Goals as goal

pub returns-then-number-lt10-clause-value : goal.returns-then-number-lt10-clause-value
returns-then-number-lt10-clause-value c =
    c.put.ensures.value
    ∙ ap (λ (l : List ℕ). before c.args.at c.args.bytes.now ++ l)
    (sym (decimal_digit c.args.number c.if-number-lt10.true))

pub returns-else-number-lt10-clause-value : goal.returns-else-number-lt10-clause-value
returns-else-number-lt10-clause-value c =
    c.put_pair.ensures.value
    ∙ ap (λ (l : List ℕ). before c.args.at c.args.bytes.now ++ l)
    (sym (decimal_two c.args.number c.if-number-lt10.false c.requires.small))
