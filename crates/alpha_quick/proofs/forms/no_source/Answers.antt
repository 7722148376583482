use Rattle.std.proofs.Common.{sym, ap}
use Rattle.alpha_table.specs.declared.names.Mnemonic.TheVariants as mnemonics
use Rattle.alpha_text.specs.Statements.{code}
use Rattle.alpha_quick.proofs.LexemeMeanings.{Says-same, says_version}
use Rattle.alpha_quick.proofs.forms.no_source.Goals as goal

pub returns : goal.returns
returns c =
    Says-same (mnemonics.Operate c.args.op) c.args.words.now _
    (code c.of_no_source.result) (ap code (sym c.of_no_source.ensures))
    (says_version c.args.op c.in_ok-rc.rc c.args.words.now c.requires c.in_ok-rc.ensures)
