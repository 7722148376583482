-- The registers that a word reads and writes by its class, and its access to memory. Register 31 is never counted.
use Rattle.std.specs.Prelude.{ℕ, ℤ, pos, ◌+ℤ◌, ◌-ℤ◌, ◌<ℤ◌, Bool, true, false, Option, Some, None, List, [], ◌∷◌, ◌==◌}
use Rattle.std.specs.Prelude.{◌&&◌, nat_lt, if◌then◌else◌}
use Rattle.std.specs.List.{list_any}
use Rattle.std.specs.Option.{option_and_then, option_map_or}
use Rattle.alpha_table.specs.declared.op.Op.{Op}
use Rattle.alpha_table.specs.declared.op.Op.TheVariants.{Cmovlbs, Cmovlbc, Cmoveq, Cmovne, Cmovlt, Cmovle, Cmovge}
use Rattle.alpha_table.specs.declared.op.Op.TheVariants.{Cmovgt}
use Rattle.alpha_table.specs.declared.columns.MemAccess.{MemAccess}
use Rattle.alpha_table.specs.declared.form.Src.{Src}
use Rattle.alpha_table.specs.declared.form.Src.TheVariants.{Reg, Lit}
use Rattle.alpha_table.specs.Class.{Class, operate, trigger, address, load, store, load_locked, store_conditional}
use Rattle.alpha_table.specs.Class.{branch, jump}

-- the register of a second source, if it is one
abbrev pub source_registers : Src → List ℕ
source_registers (Reg rb) = rb ∷ []
source_registers (Lit n) = []

-- a conditional move, which reads its destination too
abbrev pub is_move : Op → Bool
is_move Cmovlbs = true
is_move Cmovlbc = true
is_move Cmoveq = true
is_move Cmovne = true
is_move Cmovlt = true
is_move Cmovle = true
is_move Cmovge = true
is_move Cmovgt = true
is_move op = false

-- the registers that a class reads
abbrev pub sources : Class → List ℕ
sources (operate op ra src rc) = ra ∷ (if is_move op then rc ∷ source_registers src else source_registers src)
sources (trigger op ra src rc) = ra ∷ source_registers src
sources (address op ra rb disp) = rb ∷ []
sources (load extension at ra) = at.base ∷ []
sources (store at ra) = ra ∷ at.base ∷ []
sources (load_locked extension at ra) = at.base ∷ []
sources (store_conditional at ra) = ra ∷ at.base ∷ []
sources (branch (Some condition) ra disp) = ra ∷ []
sources (jump ra rb) = rb ∷ []
sources class = []

-- the register that a class writes
abbrev pub written_register : Class → Option ℕ
written_register (operate op ra src rc) = Some rc
written_register (trigger op ra src rc) = Some rc
written_register (address op ra rb disp) = Some ra
written_register (load extension at ra) = Some ra
written_register (load_locked extension at ra) = Some ra
written_register (store_conditional at ra) = Some ra
written_register (branch None ra disp) = Some ra
written_register (jump ra rb) = Some ra
written_register class = None

-- a register that counts
abbrev pub but_zero : Option ℕ → Option ℕ
but_zero None = None
but_zero (Some r) = if r == 31 then None else Some r

-- whether a register is among these, and counts
abbrev pub counts : List ℕ → ℕ → Bool
counts registers r = nat_lt r 31 && list_any (λ s. s == r) registers

-- whether a word uses a register, which never is 31
abbrev pub uses : Option Class → ℕ → Bool
uses c r = option_map_or (λ class. counts (sources class) r) c false

-- the register that it sets, which never is 31
abbrev pub sets : Option Class → Option ℕ
sets c = option_and_then (λ class. but_zero (written_register class)) c

abbrev pub class_access : Class → Option MemAccess
class_access (load extension at ra) = Some at
class_access (store at ra) = Some at
class_access (load_locked extension at ra) = Some at
class_access (store_conditional at ra) = Some at
class_access class = None

abbrev pub access : Option Class → Option MemAccess
access c = option_and_then class_access c

-- The first byte that an access may touch, counted from its base register. Where the three low bits of the address are
-- cleared, that may be up to 7 bytes before the displacement.
abbrev pub first_byte : MemAccess → ℤ
first_byte a = if a.clears then a.disp -ℤ pos 7 else a.disp

-- two accesses by one base register may touch a common byte
abbrev pub AccessesMeet : MemAccess → MemAccess → Type 0
AccessesMeet a b = (first_byte a <ℤ (b.disp +ℤ pos b.bytes)) × (first_byte b <ℤ (a.disp +ℤ pos a.bytes))
