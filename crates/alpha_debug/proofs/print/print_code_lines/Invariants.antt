use Rattle.alpha_debug.specs.Lines.{rows, code_row}
use Rattle.alpha_debug.specs.OutputChange.{output_change, AppendsOutput}
use Rattle.alpha_debug.proofs.print.print_code_lines.Given as goal

-- the lines of the first words were put
abbrev pub invariant-loop-k : goal.invariant-loop-k
invariant-loop-k g l =
    AppendsOutput (output_change g.K.Sink l.initial.out l.initial.block l.out l.block)
    (rows (code_row l.image l.place) l.k)
