use Rattle.std.proofs.Common.{inl, refl}
use Rattle.alpha_quick.specs.TerminatedLine.{rest_from}
use Rattle.alpha_quick.proofs.TerminatedLines.{HasLastBase-HasEnd}
use Rattle.alpha_quick.proofs.terminated_line.TerminatedLine.base.Goals as goal

pub returns-then-is_line_end : goal.returns-then-is_line_end
returns-then-is_line_end c =
    inl (HasLastBase-HasEnd (rest_from c.args.self.now c.args.i)
    (rest_from c.args.self.now c.in_ok-r.j) c.in_ok-r.r c.in_ok-r.ensures.line
    (c.if-is_line_end.ensures.end refl))
