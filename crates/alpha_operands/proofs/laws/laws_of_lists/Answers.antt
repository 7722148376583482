use Rattle.alpha_operands.specs.Shapes.{patterns}
use Rattle.alpha_operands.proofs.ListReading.{values-read, values-none, AreValuesOf-unique}
use Rattle.alpha_operands.proofs.ListValueSizes.{next_of-IsOfSize}
use Rattle.alpha_operands.proofs.Quotes.{operand_text-read}
use Rattle.alpha_operands.proofs.laws.laws_of_lists.Goals as goal

pub returns-clause-end : goal.returns-clause-end
returns-clause-end c = values-none

pub returns-clause-values : goal.returns-clause-values
returns-clause-values c = values-read

pub returns-clause-text : goal.returns-clause-text
returns-clause-text c = λ shape. operand_text-read (patterns shape)

pub returns-clause-one : goal.returns-clause-one
returns-clause-one c = AreValuesOf-unique

pub returns-clause-sized : goal.returns-clause-sized
returns-clause-sized c = next_of-IsOfSize
