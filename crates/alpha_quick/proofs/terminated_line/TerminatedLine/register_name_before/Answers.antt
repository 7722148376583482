use Rattle.std.proofs.Common.{◌≡◌, ◌∷◌, ◌+◌, ◌∙◌, refl, sym, ap, subst, arith}
use Rattle.std.specs.Char.{is_ascii_alphanumeric}
use Rattle.alpha_text.specs.SuffixWords.{BeginsWithout}
use Rattle.alpha_quick.specs.TerminatedLine.{rest_from}
use Rattle.alpha_quick.specs.Words.{HasRegister}
use Rattle.alpha_quick.proofs.TerminatedLines.{HasRegister-letters}
use Rattle.alpha_quick.proofs.terminated_line.TerminatedLine.register_name_before.Goals as goal

pub returns-in_ok-r-clause-line : goal.returns-in_ok-r-clause-line
returns-in_ok-r-clause-line c =
    let s = c.args.self.now in
    let four : c.args.i + 3 + 1 ≡ c.args.i + 4 = omega arith in
    let mark : rest_from c.args.self.now (c.args.i + 3) ≡ c.args.mark ∷ rest_from c.args.self.now (c.args.i + 4) =
    c.if-is_byte_at.ensures.line refl ∙ ap (λ n. c.args.mark ∷ rest_from s n) four in
    subst (λ t. HasRegister (rest_from s c.args.i) c.in_ok-r.r t) mark
    (HasRegister-letters (rest_from s c.args.i)
    (rest_from s (c.args.i + 3)) c.in_ok-first.first c.in_ok-first.second c.in_ok-r.r
    c.in_ok-first.ensures.first c.in_ok-first.ensures.second
    (subst (λ t. BeginsWithout is_ascii_alphanumeric t) (sym mark) c.requires.mark) (sym c.in_ok-r.ensures)
    c.in_ok-first.ensures.line)
