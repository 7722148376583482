use Rattle.std.proofs.Common.{rules}
use Rattle.alpha_table.specs.declared.names.Mnemonic.TheVariants as mnemonics
use Rattle.alpha_quick.specs.TerminatedLine.{rest_from}
use Rattle.alpha_quick.proofs.LexemeMeanings.{Says-first_register}
use Rattle.alpha_quick.proofs.terminated_line.TerminatedLine.branch.Goals as goal

pub returns-in-Some : goal.returns-in-Some
returns-in-Some c =
    Says-first_register (mnemonics.Branch c.args.op) (rest_from c.args.self.now c.args.i) _ _ c.branch_with_link.result
    (search rules) c.branch_with_link.ensures
