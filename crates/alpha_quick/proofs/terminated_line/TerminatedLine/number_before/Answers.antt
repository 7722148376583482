use Rattle.std.proofs.Common.{refl, ◌++◌, ◌+◌, ◌∙◌, ◌<◌, ◌^◌, decimal, ap, rules}
use Rattle.alpha_quick.specs.TerminatedLine.{rest_from}
use Rattle.alpha_quick.proofs.TerminatedLines.{HasNumber-mark}
use Rattle.alpha_quick.proofs.terminated_line.TerminatedLine.number_before.Goals as goal

pub returns-then-is_byte_at-clause-line : goal.returns-then-is_byte_at-clause-line
returns-then-is_byte_at-clause-line c =
    let small : c.in_ok-n.n < 2 ^ 64 = search rules in
    HasNumber-mark (rest_from c.args.self.now c.args.i)
    (rest_from c.args.self.now (c.in_ok-n.j + 1)) c.in_ok-n.n c.args.mark small c.requires.mark
    (c.in_ok-n.ensures.line ∙ ap (λ t. decimal c.in_ok-n.n ++ t) (c.if-is_byte_at.ensures.line refl))
