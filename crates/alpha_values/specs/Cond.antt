-- What a conditional move or branch tests its register for.
use Rattle.std.specs.Prelude.{ℕ, ◌%◌, ◌==◌, Bool, not, pos, int_lt, int_le}
use Rattle.std.specs.Int.{w64}
use Rattle.alpha_table.specs.declared.op.Cond.{Cond}
use Rattle.alpha_table.specs.declared.op.Cond.TheVariants.{Lbc, Lbs, Eq, Ne, Lt, Le, Ge, Gt}
use Rattle.alpha_values.specs.Numbers.{signed}

-- the low bit clear or set, or the signed number against 0
unfoldable pub is_taken : Cond → ℕ → Bool
is_taken Lbc a = a % 2 == 0
is_taken Lbs a = a % 2 == 1
is_taken Eq a = a == 0
is_taken Ne a = not (a == 0)
is_taken Lt a = int_lt (signed w64 a) (pos 0)
is_taken Le a = int_le (signed w64 a) (pos 0)
is_taken Ge a = int_le (pos 0) (signed w64 a)
is_taken Gt a = int_lt (pos 0) (signed w64 a)
