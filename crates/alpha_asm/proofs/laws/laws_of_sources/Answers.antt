use Rattle.std.proofs.Common.{[]}
use Rattle.std.specs.Str.Lines.{lines}
use Rattle.alpha_asm.proofs.StatementCells.{values_cells, text_cells}
use Rattle.alpha_asm.proofs.RefusedReading.{line_fault, lines_taken}
use Rattle.alpha_asm.proofs.laws.laws_of_sources.Goals as goal

pub returns-clause-values : goal.returns-clause-values
returns-clause-values c = values_cells

pub returns-clause-text : goal.returns-clause-text
returns-clause-text c = text_cells

pub returns-clause-lines : goal.returns-clause-lines
returns-clause-lines c = λ kind source h. lines_taken kind [] (lines source) h

pub returns-clause-fault : goal.returns-clause-fault
returns-clause-fault c = line_fault
