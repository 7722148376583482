use Rattle.std.proofs.Common.{◌≡◌, ◌∷◌, ◌+◌, ◌∙◌, refl, ap, arith}
use Rattle.alpha_quick.specs.TerminatedLine.{rest_from}
use Rattle.alpha_quick.proofs.terminated_line.TerminatedLine.register_letters.Goals as goal

pub returns-in_ok-second-clause-line : goal.returns-in_ok-second-clause-line
returns-in_ok-second-clause-line c =
    let s = c.args.self.now in
    let a = c.in_ok-first.first in
    let b = c.in_ok-second.second in
    let two : c.args.i + 1 + 1 ≡ c.args.i + 2 = omega arith in
    let three : c.args.i + 2 + 1 ≡ c.args.i + 3 = omega arith in
    c.if-is_byte_at.ensures.line refl
    ∙ ap (λ t. 36 ∷ t) (c.in_ok-first.ensures.line ∙ ap (λ n. a ∷ rest_from s n) two
    ∙ ap (λ t. a ∷ t) (c.in_ok-second.ensures.line ∙ ap (λ n. b ∷ rest_from s n) three))
