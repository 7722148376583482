use Rattle.std.proofs.Common.{refl, sym, ap}
use Rattle.alpha_table.specs.declared.names.Mnemonic.TheVariants as mnemonics
use Rattle.alpha_text.specs.Statements.{code}
use Rattle.alpha_quick.proofs.LexemeMeanings.{Says-same, says_pair}
use Rattle.alpha_quick.proofs.forms.one_register.Goals as goal

pub of_zero-requires : goal.of_zero-requires
of_zero-requires c = rw c.requires (refl, tt)

pub returns : goal.returns
returns c =
    Says-same (mnemonics.Operate c.args.op) c.args.words.now _ (code c.of_zero.result) (ap code (sym c.of_zero.ensures))
    (says_pair c.args.op c.in_ok-registers.registers.rb c.in_ok-registers.registers.rc c.args.words.now c.requires
    c.in_ok-registers.ensures)
