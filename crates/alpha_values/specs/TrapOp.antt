-- The instructions that trap on overflow: when they overflow, and the value that completes them.
use Rattle.std.specs.Prelude.{ℕ, ℤ, ◌+ℤ◌, ◌-ℤ◌, ◌*ℤ◌, Bool, true, false, not, IsTrue}
use Rattle.std.specs.Ordering.{int_eq}
use Rattle.std.specs.Int.{Width, w32, w64, int_wrap, saturate_signed}
use Rattle.alpha_words.specs.declared.Completion.{Completion}
use Rattle.alpha_words.specs.declared.Completion.TheVariants.{Saturate, Stop}
use Rattle.alpha_table.specs.declared.op.TrapOp.{TrapOp}
use Rattle.alpha_table.specs.declared.op.TrapOp.TheVariants.{AddlV, SublV, AddqV, SubqV, MullV, MulqV}
use Rattle.alpha_values.specs.Numbers.{signed, register_of}

abbrev pub size_of : TrapOp → Width
size_of AddlV = w32
size_of SublV = w32
size_of MullV = w32
size_of op = w64

-- the exact result, of operands of the operation's size
abbrev pub exact : TrapOp → ℕ → ℕ → ℤ
exact AddlV a b = signed w32 a +ℤ signed w32 b
exact SublV a b = signed w32 a -ℤ signed w32 b
exact MullV a b = signed w32 a *ℤ signed w32 b
exact AddqV a b = signed w64 a +ℤ signed w64 b
exact SubqV a b = signed w64 a -ℤ signed w64 b
exact MulqV a b = signed w64 a *ℤ signed w64 b

-- the size makes another number of the exact result, which lies outside the size's signed range: as a test, and as a
-- fact
unfoldable pub overflow_of : TrapOp → ℕ → ℕ → Bool
overflow_of op a b = not (int_eq (int_wrap (size_of op) (exact op a b)) (exact op a b))

abbrev pub Overflows : TrapOp → ℕ → ℕ → Type 0
Overflows op a b = IsTrue (overflow_of op a b)

-- the number that stands for the exact result in the signed range of the size: itself where it lies there, else by
-- saturate the nearest bound, by wrap and by stop the one that is congruent to it
abbrev pub completion_of : Completion → Width → ℤ → ℤ
completion_of Saturate size z = saturate_signed size z
completion_of completion size z = int_wrap size z

unfoldable pub completed_of : TrapOp → ℕ → ℕ → Completion → ℕ
completed_of op a b completion = register_of (completion_of completion (size_of op) (exact op a b))

-- whether an overflow ends the program
abbrev pub stops : Completion → Bool
stops Stop = true
stops completion = false
