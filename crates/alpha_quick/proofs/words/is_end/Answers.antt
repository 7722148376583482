use Rattle.std.proofs.Common.{◌≡◌, length, arith}
use Rattle.std.proofs.lemmas.Bool.Decides.{nat_tests}
use Rattle.alpha_token.proofs.TokenSuffixes.{tokens-empty}
use Rattle.alpha_quick.proofs.words.is_end.Goals as goal

pub returns-then-is_empty : goal.returns-then-is_empty
returns-then-is_empty c =
    λ h. (0, tokens-empty c.args.s.now (let none : length c.args.s.now ≡ 0 = grind (arith, nat_tests) in none))
