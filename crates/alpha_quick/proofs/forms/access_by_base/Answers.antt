use Rattle.std.proofs.Common.{sym, ap}
use Rattle.alpha_table.specs.declared.names.Mnemonic.TheVariants as mnemonics
use Rattle.alpha_text.specs.Statements.{code}
use Rattle.alpha_quick.proofs.LexemeMeanings.{Says-same, says_base}
use Rattle.alpha_quick.proofs.forms.access_by_base.Goals as goal

pub returns : goal.returns
returns c =
    λ line first. Says-same (mnemonics.Mem c.args.op) line _ (code c.memory.result) (ap code (sym c.memory.ensures))
    (says_base c.args.op c.args.ra c.in_ok-rb.rb line c.args.words.now first c.in_ok-rb.ensures)
