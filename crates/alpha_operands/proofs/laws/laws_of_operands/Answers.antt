use Rattle.std.proofs.Common.{length, []}
use Rattle.alpha_token.specs.Tokens.{tokens}
use Rattle.alpha_operands.specs.declared.number.Sign.TheVariants as signs
use Rattle.alpha_operands.specs.Shapes.{patterns}
use Rattle.alpha_operands.specs.Operands.{nothing}
use Rattle.alpha_operands.specs.Walk.{operands}
use Rattle.alpha_operands.proofs.Grammar.{follow-spells, spells-follow}
use Rattle.alpha_operands.proofs.PatternsApart.{shapes-distinct}
use Rattle.alpha_token.proofs.TokenOrder.{tokens-fall}
use Rattle.alpha_operands.proofs.OperandFaults.{follow-has, follow-first, AreOperands-no_fault}
use Rattle.alpha_operands.proofs.laws.laws_of_operands.Goals as goal

pub returns-clause-grammar : goal.returns-clause-grammar
unfolding operands
returns-clause-grammar c = λ s line o. (
  λ h. follow-spells (patterns s) [] signs.Plus (tokens line) nothing o h,
  λ (q, k, g). spells-follow (patterns s) (shapes-distinct s) [] q signs.Plus (tokens line) nothing o k g,
)

pub returns-clause-fault : goal.returns-clause-fault
unfolding operands
returns-clause-fault c = λ s line f h. (
  follow-has (patterns s) (shapes-distinct s) [] signs.Plus (tokens line) nothing f h,
  λ g k. follow-first (length line) (patterns s) (shapes-distinct s) [] signs.Plus (tokens line) nothing f g
      (tokens-fall line) h k,
)

pub returns-clause-faultless : goal.returns-clause-faultless
returns-clause-faultless c = λ s line o f h. AreOperands-no_fault (patterns s) (shapes-distinct s) (tokens line) o f h
