-- What an operate instruction leaves in its destination, none where it overflows.
use Rattle.std.specs.Prelude.{ℕ, Bool, false, if◌then◌else◌, Option, Some, None}
use Rattle.std.specs.Option.{option_map_or}
use Rattle.alpha_words.specs.declared.Level.{Level}
use Rattle.alpha_table.specs.declared.op.Op.{Op}
use Rattle.alpha_table.specs.Op.{trap_of}
use Rattle.alpha_values.specs.TrapOp.{overflow_of}
use Rattle.alpha_values.specs.Op.{result_of}

-- whether the row has `/V` and overflows at these sources
abbrev pub overflows_at : Op → ℕ → ℕ → Bool
overflows_at op a b = option_map_or (λ trap. overflow_of trap a b) (trap_of op) false

-- the result, where the row doesn't overflow
abbrev pub outcome_of : Level → Op → ℕ → ℕ → ℕ → Option ℕ
outcome_of level op a b old = if overflows_at op a b then None else Some (result_of level op a b old)
