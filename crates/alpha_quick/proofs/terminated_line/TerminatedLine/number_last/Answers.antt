use Rattle.std.proofs.Common.{◌<◌, ◌^◌, rules}
use Rattle.alpha_quick.specs.TerminatedLine.{rest_from}
use Rattle.alpha_quick.proofs.TerminatedLines.{HasNumber-end, rest_from-end}
use Rattle.alpha_quick.proofs.terminated_line.TerminatedLine.number_last.Goals as goal

pub returns-then-j-self : goal.returns-then-j-self
returns-then-j-self c =
    let small : c.in_ok-n.n < 2 ^ 64 = search rules in
    HasNumber-end (rest_from c.args.self.now c.args.i) (rest_from c.args.self.now c.in_ok-n.j) c.in_ok-n.n small
    (rest_from-end c.args.self.now c.in_ok-n.j c.requires.ended c.if-j-self.true) c.in_ok-n.ensures.line
