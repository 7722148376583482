use Rattle.std.proofs.Common.{sym, ap}
use Rattle.alpha_table.specs.declared.names.Mnemonic.TheVariants as mnemonics
use Rattle.alpha_text.specs.Statements.{code}
use Rattle.alpha_quick.specs.TerminatedLine.{rest_from}
use Rattle.alpha_quick.proofs.LexemeMeanings.{Says-same, says_any}
use Rattle.alpha_quick.proofs.terminated_line.TerminatedLine.operate.Goals as goal

pub returns : goal.returns
returns c =
    Says-same (mnemonics.Operate c.args.op) (rest_from c.args.self.now c.args.i) _
    (code c.operate.result) (ap code (sym c.operate.ensures))
    (says_any c.args.op c.in_ok-operands.operands.ra c.in_ok-operands.operands.rc c.in_ok-operands.operands.src
    (rest_from c.args.self.now c.args.i) c.requires.rule c.in_ok-operands.ensures)
