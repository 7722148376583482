use Rattle.std.proofs.Common.{◌≡◌, ◌<◌, ◌∙◌, length, get_or, ap, refl, rules}
use Rattle.alpha_token.proofs.TokenSuffixes.{tokens-comment, tokens-empty}
use Rattle.alpha_text.specs.Reading.{line_of}
use Rattle.alpha_quick.proofs.line.is_blank_line.Goals as goal

pub returns-in-empty : goal.returns-in-empty
returns-in-empty c =
    let none : length c.args.line.now ≡ 0 = search rules in
    λ h. ap line_of (tokens-empty c.args.line.now none) ∙ refl

pub returns-in-empty-2 : goal.returns-in-empty-2
returns-in-empty-2 c =
    let some : 0 < length c.args.line.now = search rules in
    let first : get_or c.args.line.now 0 0 ≡ 35 = search rules in
    λ h. ap line_of (tokens-comment c.args.line.now some first) ∙ refl
