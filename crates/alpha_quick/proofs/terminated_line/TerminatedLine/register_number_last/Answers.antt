use Rattle.std.proofs.Common.{◌≡◌, ◌+◌, ◌<◌, ℕ, sym, subst, arith}
use Rattle.alpha_quick.specs.TerminatedLine.{rest_from}
use Rattle.alpha_quick.specs.Words.{HasLast}
use Rattle.alpha_quick.proofs.TerminatedLines.{HasLast-end, rest_from-end}
use Rattle.alpha_quick.proofs.LexemeMeanings.{IfSome-implied}
use Rattle.alpha_quick.proofs.terminated_line.TerminatedLine.register_number_last.Goals as goal

pub returns-then-i-self : goal.returns-then-i-self
returns-then-i-self c =
    let line = rest_from c.args.self.now c.args.i in
    let n = c.in_ok-first.first in
    let small : c.in_ok-first.first < 32 = omega (arith, c.in_ok-first.ensures.bound) in
    IfSome-implied (λ (r : ℕ). r ≡ n) (λ (r : ℕ). HasLast line r) c.new.result
    (λ r e. subst (λ m. HasLast line m) (sym e) (HasLast-end line (rest_from c.args.self.now (c.args.i + 2)) n small
    (rest_from-end c.args.self.now (c.args.i + 2) c.requires.ended c.if-i-self.true) c.in_ok-first.ensures.line))
    c.new.ensures.found
