-- The registers after a late trap was completed.
use Rattle.std.specs.Prelude.{ℕ, List, Option, Some}
use Rattle.alpha_words.specs.declared.Completion.{Completion}
use Rattle.alpha_words.specs.Regs.{reg, put}
use Rattle.alpha_table.specs.Class.{Class, trigger}
use Rattle.alpha_values.specs.Source.{source_value}
use Rattle.alpha_values.specs.TrapOp.{completed_of}

-- a trigger's destination has its completed value
abbrev pub completed_regs : Completion → Option Class → List ℕ → List ℕ
completed_regs completion (Some (trigger op ra src rc)) regs =
    put regs rc (completed_of op (reg regs ra) (source_value regs src) completion)
completed_regs completion _ regs = regs
