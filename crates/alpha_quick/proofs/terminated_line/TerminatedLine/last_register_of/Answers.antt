use Rattle.std.proofs.Common.{◌≡◌, ℕ, sym, subst, refl}
use Rattle.alpha_quick.specs.TerminatedLine.{rest_from}
use Rattle.alpha_quick.specs.Words.{HasLast}
use Rattle.alpha_quick.proofs.TerminatedLines.{HasLast-HasEnd}
use Rattle.alpha_quick.proofs.LexemeMeanings.{IfSome-implied}
use Rattle.alpha_quick.proofs.terminated_line.TerminatedLine.last_register_of.Goals as goal

pub returns-then-is_line_end : goal.returns-then-is_line_end
returns-then-is_line_end c =
    let line = rest_from c.args.self.now c.args.i in
    IfSome-implied (λ (r : ℕ). r ≡ c.args.n) (λ (r : ℕ). HasLast line r) c.new.result
    (λ r e. subst (λ m. HasLast line m) (sym e) (HasLast-HasEnd line (rest_from c.args.self.now c.args.j) c.args.n
    c.requires.bound (c.if-is_line_end.ensures.word refl) (c.if-is_line_end.ensures.end refl) c.requires.line))
    c.new.ensures.found
