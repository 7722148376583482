use Rattle.std.proofs.Common.{rules}
use Rattle.alpha_table.specs.declared.names.Mnemonic.TheVariants as mnemonics
use Rattle.alpha_quick.specs.TerminatedLine.{rest_from}
use Rattle.alpha_quick.proofs.LexemeMeanings.{Says-first_register}
use Rattle.alpha_quick.proofs.terminated_line.TerminatedLine.memory.Goals as goal

pub returns : goal.returns
returns c =
    Says-first_register (mnemonics.Mem c.args.op) (rest_from c.args.self.now c.args.i) _ _ c.access_prefix.result
    (search rules) c.access_prefix.ensures
