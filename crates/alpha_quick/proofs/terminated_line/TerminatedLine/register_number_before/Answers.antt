use Rattle.std.proofs.Common.{◌∷◌, ◌++◌, ◌+◌, ◌<◌, ◌∙◌, decimal, refl, sym, ap, subst, arith}
use Rattle.alpha_quick.specs.TerminatedLine.{rest_from}
use Rattle.alpha_quick.specs.Words.{HasRegister}
use Rattle.alpha_quick.proofs.TerminatedLines.{HasRegister-mark}
use Rattle.alpha_quick.proofs.terminated_line.TerminatedLine.register_number_before.Goals as goal

pub returns-then-is_byte_at-clause-line : goal.returns-then-is_byte_at-clause-line
returns-then-is_byte_at-clause-line c =
    let s = c.args.self.now in
    let n = c.in_ok-first.first in
    let small : c.in_ok-first.first < 32 = omega (arith, c.in_ok-first.ensures.bound) in
    subst (λ m. HasRegister (rest_from s c.args.i) m (c.args.mark ∷ rest_from s (c.args.i + 2 + 1)))
    (sym c.in_ok-r.ensures.found)
    (HasRegister-mark (rest_from s c.args.i) (rest_from s (c.args.i + 2 + 1)) n c.args.mark small c.requires.mark
    (c.in_ok-first.ensures.line ∙ ap (λ t. 36 ∷ (decimal n ++ t)) (c.if-is_byte_at.ensures.line refl)))

pub returns-in_ok-r-2-clause-line : goal.returns-in_ok-r-2-clause-line
returns-in_ok-r-2-clause-line c =
    let s = c.args.self.now in
    let n = c.in_ok-n.n in
    subst (λ m. HasRegister (rest_from s c.args.i) m (c.args.mark ∷ rest_from s (c.args.i + 3 + 1)))
    (sym c.in_ok-r-2.ensures.found)
    (HasRegister-mark (rest_from s c.args.i)
    (rest_from s (c.args.i + 3 + 1)) n c.args.mark c.in_ok-n.ensures.bound c.requires.mark
    (c.in_ok-n.ensures.line ∙ ap (λ t. 36 ∷ (decimal n ++ t)) (c.if-is_byte_at-2.ensures.line refl)))
