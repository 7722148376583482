use Rattle.alpha_debug.specs.Lines.{rows, memory_row}
use Rattle.alpha_debug.specs.OutputChange.{output_change, AppendsOutput}
use Rattle.alpha_debug.proofs.print.print_bytes.Given as goal

-- the lines of the first rows were put
abbrev pub invariant-loop-k : goal.invariant-loop-k
invariant-loop-k g l =
    AppendsOutput (output_change g.K.Sink l.initial.out l.initial.block l.out l.block)
    (rows (memory_row l.at l.bytes) l.k)
