use Rattle.std.proofs.Common.{◌∷◌}
use Rattle.alpha_quick.specs.TerminatedLine.{rest_from}
use Rattle.alpha_quick.proofs.TerminatedLines.{HasComma-comma}
use Rattle.alpha_quick.proofs.terminated_line.TerminatedLine.first_register.Goals as goal

pub returns-clause-line : goal.returns-clause-line
returns-clause-line c =
    let s = c.args.self.now in
    let rest = rest_from s c.in_ok-r.j in (
      44 ∷ rest,
      c.in_ok-r.ensures.line,
      HasComma-comma rest (rest_from s c.after_comma.result) c.after_comma.ensures.line,
    )
