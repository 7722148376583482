use Rattle.alpha_text.specs.Statements.{code}
use Rattle.alpha_quick.specs.InsnPrefix.{PrefixSays, HasStatement}
use Rattle.alpha_quick.specs.Prescanned.{IsPrescanned}
use Rattle.alpha_quick.specs.TerminatedLine.{rest_from, line_text}
use Rattle.alpha_quick.proofs.LexemeMeanings.{IfOk-implied, IfErr-implied, PrefixSays-weaker}
use Rattle.alpha_quick.proofs.Parts.{HasStatement-same}
use Rattle.alpha_quick.proofs.terminated_line.TerminatedLine.read.Goals as goal

pub returns-in-Some-clause-ok : goal.returns-in-Some-clause-ok
returns-in-Some-clause-ok c =
    let line = line_text c.args.self.now in
    let rest = rest_from c.args.self.now c.text_start-start.result in
    let prefix = c.in-Some.prefix in
    IfOk-implied (λ i. (line : _) → PrefixSays (HasStatement line) prefix → HasStatement line (code i))
    (λ i. HasStatement line (code i)) c.insn_alone.result
    (λ i says. says line (PrefixSays-weaker (HasStatement rest) (HasStatement line) prefix
    (HasStatement-same line rest c.text_start-start.ensures.line) c.in-Some.ensures)) c.insn_alone.ensures.ok

pub returns-in-Some-clause-left : goal.returns-in-Some-clause-left
returns-in-Some-clause-left c =
    let line = line_text c.args.self.now in
    let rest = rest_from c.args.self.now c.text_start-start.result in
    let prefix = c.in-Some.prefix in
    IfErr-implied (λ p. (line : _) → PrefixSays (HasStatement line) prefix → IsPrescanned line p)
    (IsPrescanned line) c.insn_alone.result
    (λ p says. says line (PrefixSays-weaker (HasStatement rest) (HasStatement line) prefix
    (HasStatement-same line rest c.text_start-start.ensures.line) c.in-Some.ensures)) c.insn_alone.ensures.left
