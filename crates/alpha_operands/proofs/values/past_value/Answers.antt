use Rattle.std.proofs.Common.{◌≡◌, ◌∙◌, length, refl, ap, inl, inr, arith}
use Rattle.std.proofs.lemmas.Bool.Decides.{nat_tests}
use Rattle.alpha_token.specs.Tokens.{tokens}
use Rattle.alpha_token.proofs.TokenSuffixes.{tokens-empty}
use Rattle.alpha_operands.proofs.FirstValues.{comma-tokens}
use Rattle.alpha_operands.proofs.values.past_value.Goals as goal

pub returns-then-is_empty : goal.returns-then-is_empty
returns-then-is_empty c =
    inl
    (tokens-empty c.args.behind.now (let none : length c.args.behind.now ≡ 0 = grind (arith, nat_tests) in none), refl)

pub returns-in_ok-rest : goal.returns-in_ok-rest
returns-in_ok-rest c = inr (ap tokens c.in_ok-rest.ensures ∙ comma-tokens c.in_ok-rest.rest.now)
