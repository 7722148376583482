use Rattle.std.proofs.Common.{◌+◌, refl, sym}
use Rattle.alpha_quick.specs.TerminatedLine.{rest_from}
use Rattle.alpha_quick.proofs.TerminatedLines.{HasRegister-letters}
use Rattle.alpha_quick.proofs.terminated_line.TerminatedLine.register_name_last.Goals as goal

pub returns-in_ok-r : goal.returns-in_ok-r
returns-in_ok-r c =
    let rest = rest_from c.args.self.now (c.args.i + 3) in (
      rest,
      HasRegister-letters (rest_from c.args.self.now c.args.i) rest c.in_ok-first.first c.in_ok-first.second c.in_ok-r.r
          c.in_ok-first.ensures.first c.in_ok-first.ensures.second (c.if-is_line_end.ensures.word refl)
          (sym c.in_ok-r.ensures) c.in_ok-first.ensures.line,
      c.if-is_line_end.ensures.end refl,
    )
