use Rattle.std.proofs.Common.{◌-◌, length, map}
use Rattle.alpha_asm.specs.declared.output.Output.{Output}
use Rattle.alpha_asm.specs.Statement.{cell_of, values_up_to}
use Rattle.alpha_asm.specs.Patches.{AddsCells}
use Rattle.alpha_asm.proofs.output.Output.push_values.Given as goal

-- what is still to be added makes up for all
abbrev pub invariant-loop : goal.invariant-loop
invariant-loop l = (new : Output) →
    AddsCells l.line (map (cell_of l.bytes) (values_up_to (length l.list - l.counter) l.bytes l.rest)) l.self new →
    AddsCells l.line (map (cell_of l.bytes) (values_up_to (length l.list) l.bytes l.list)) l.initial.self new
