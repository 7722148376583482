use Rattle.std.proofs.Common.{rules}
use Rattle.alpha_table.specs.declared.names.Mnemonic.TheVariants as mnemonics
use Rattle.alpha_quick.proofs.LexemeMeanings.{Says-first_register}
use Rattle.alpha_quick.proofs.forms.memory.Goals as goal

pub returns : goal.returns
returns c =
    Says-first_register (mnemonics.Mem c.args.op) c.args.words.now _ _ c.access_prefix.result
    (search rules) c.access_prefix.ensures
