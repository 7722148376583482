use Rattle.std.proofs.Common.{◌-◌, length, map}
use Rattle.alpha_asm.specs.declared.output.Output.{Output}
use Rattle.alpha_asm.specs.Statement.{number, bytes_up_to}
use Rattle.alpha_asm.specs.Patches.{AddsCells}
use Rattle.alpha_asm.proofs.output.Output.push_text.Given as goal

-- what is still to be added makes up for all
abbrev pub invariant-loop : goal.invariant-loop
invariant-loop l = (new : Output) →
    AddsCells l.line (map (number 1) (bytes_up_to (length l.text - l.counter) l.rest)) l.self new →
    AddsCells l.line (map (number 1) (bytes_up_to (length l.text) l.text)) l.initial.self new
