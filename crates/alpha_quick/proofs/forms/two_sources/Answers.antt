use Rattle.std.proofs.Common.{sym, ap}
use Rattle.alpha_table.specs.declared.names.Mnemonic.TheVariants as mnemonics
use Rattle.alpha_text.specs.Statements.{code}
use Rattle.alpha_quick.proofs.LexemeMeanings.{Says-same, says_any}
use Rattle.alpha_quick.proofs.forms.two_sources.Goals as goal

pub operate-requires : goal.operate-requires
operate-requires c = rw c.requires tt

pub returns : goal.returns
returns c =
    Says-same (mnemonics.Operate c.args.op) c.args.words.now _ (code c.operate.result) (ap code (sym c.operate.ensures))
    (says_any c.args.op c.in_ok-operands.operands.ra c.in_ok-operands.operands.rc c.in_ok-operands.operands.src
    c.args.words.now c.requires c.in_ok-operands.ensures)
