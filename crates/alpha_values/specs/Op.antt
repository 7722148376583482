-- The result of each operate instruction at a level, in the words of the Architecture Handbook's instruction
-- descriptions, from Ra, Rb and what the destination had. Registers are below 2 ^ 64.
use Rattle.std.specs.Prelude.{ℕ, Bool, ◌-◌, ◌*◌, ◌/◌, ◌%◌, ◌^◌, ◌==◌, ◌+ℤ◌, ◌-ℤ◌, ◌*ℤ◌, pos, nat_lt, nat_le, int_lt}
use Rattle.std.specs.Prelude.{int_le, if◌then◌else◌, reverse, sum, bit_and, bit_or, bit_xor}
use Rattle.std.specs.Int.{w8, w16, w32, w64, int_shr}
use Rattle.alpha_words.specs.declared.Level.{Level}
use Rattle.alpha_words.specs.declared.Level.TheVariants.{One, Two}
use Rattle.alpha_table.specs.declared.op.Op.{Op}
use Rattle.alpha_table.specs.declared.op.Op.TheVariants.{Addl, S4addl, Subl, S4subl, Cmpbge, S8addl, S8subl, Cmpult}
use Rattle.alpha_table.specs.declared.op.Op.TheVariants.{Addq, S4addq, Subq, S4subq, Cmpeq, S8addq, S8subq, Cmpule}
use Rattle.alpha_table.specs.declared.op.Op.TheVariants.{AddlV, SublV, Cmplt, AddqV, SubqV, Cmple, And, Bic, Cmovlbs}
use Rattle.alpha_table.specs.declared.op.Op.TheVariants.{Cmovlbc, Bis, Cmoveq, Cmovne, Ornot, Xor, Cmovlt, Cmovge, Eqv}
use Rattle.alpha_table.specs.declared.op.Op.TheVariants.{Amask, Cmovle, Cmovgt, Implver, Mskbl, Extbl, Insbl, Mskwl}
use Rattle.alpha_table.specs.declared.op.Op.TheVariants.{Extwl, Inswl, Mskll, Extll, Insll, Zap, Zapnot, Mskql, Srl}
use Rattle.alpha_table.specs.declared.op.Op.TheVariants.{Extql, Sll, Insql, Sra, Mskwh, Inswh, Extwh, Msklh, Inslh}
use Rattle.alpha_table.specs.declared.op.Op.TheVariants.{Extlh, Mskqh, Insqh, Extqh, Mull, Mulq, Umulh, MullV, MulqV}
use Rattle.alpha_table.specs.declared.op.Op.TheVariants.{Sextb, Sextw, Ctpop, Ctlz, Cttz}
use Rattle.alpha_table.specs.declared.op.Cond.{Cond}
use Rattle.alpha_table.specs.declared.op.Cond.TheVariants.{Lbc, Lbs, Eq, Ne, Lt, Le, Ge, Gt}
use Rattle.alpha_words.specs.Digits.{digits, number}
use Rattle.alpha_values.specs.Numbers.{signed, register_of, wrapped}
use Rattle.alpha_values.specs.Bits.{bits_of, bytes_of, pairwise, zeros_before_one}
use Rattle.alpha_values.specs.Cond.{is_taken}

-- a comparison's answer
abbrev pub flag : Bool → ℕ
flag holds = if holds then 1 else 0

-- CMPBGE: a bit for each byte, 1 where that of Ra is at least that of Rb
unfoldable pub bytes_compared : ℕ → ℕ → ℕ
bytes_compared a b = number 2 (pairwise (λ x y. if nat_le y x then 1 else 0) (bytes_of a) (bytes_of b))

-- each bit of a register turned
abbrev pub complement : ℕ → ℕ
complement n = 2 ^ 64 - 1 - n

-- the features of an implementation, as bits of AMASK: bit 0 is the byte and word instructions, bit 2 the counts
abbrev pub features : Level → ℕ
features One = 1
features Two = 5

-- what IMPLVER answers: 1 for a 21164, 2 for a 21264
abbrev pub implementation : Level → ℕ
implementation One = 1
implementation Two = 2

-- Rb where Ra meets the condition
abbrev pub cmov_result : Cond → ℕ → ℕ → ℕ → ℕ
cmov_result c a b old = if is_taken c a then b else old

-- EXTxL: Ra shifted right to the byte that Rb names, of which as many low bytes stay as the size has
abbrev pub extracted_low : ℕ → ℕ → ℕ → ℕ
extracted_low size a b = a / 2 ^ (8 * (b % 8)) % 2 ^ (8 * size)

-- EXTxH: Ra shifted left by as many bytes as there are from Rb up to the next multiple of 8, by none where it is one
abbrev pub extracted_high : ℕ → ℕ → ℕ → ℕ
extracted_high size a b = a * 2 ^ (8 * ((8 - b % 8) % 8)) % 2 ^ 64 % 2 ^ (8 * size)

-- the size's low bytes of Ra, shifted left to Rb's byte: INSxL is the low and INSxH the high quadword of this
abbrev pub inserted : ℕ → ℕ → ℕ → ℕ
inserted size a b = 2 ^ (8 * (b % 8)) * (a % 2 ^ (8 * size))

-- a mark for each of the size's bytes from Rb's on: MSKxL clears by the low and MSKxH by the high eight of these
abbrev pub byte_mask : ℕ → ℕ → ℕ
byte_mask size b = 2 ^ (b % 8) * (2 ^ size - 1)

-- ZAP: the bytes of Ra whose mark is 1 become 0
unfoldable pub zapped : ℕ → ℕ → ℕ
zapped a marks = number 256 (pairwise (λ mark byte. if mark == 1 then 0 else byte) (digits 2 8 marks) (bytes_of a))

unfoldable pub result_of : Level → Op → ℕ → ℕ → ℕ → ℕ
-- integer arithmetic: longwords, then quadwords
result_of level Addl a b old = wrapped w32 (signed w32 a +ℤ signed w32 b)
result_of level AddlV a b old = wrapped w32 (signed w32 a +ℤ signed w32 b)
result_of level S4addl a b old = wrapped w32 (signed w32 a *ℤ pos 4 +ℤ signed w32 b)
result_of level S8addl a b old = wrapped w32 (signed w32 a *ℤ pos 8 +ℤ signed w32 b)
result_of level Subl a b old = wrapped w32 (signed w32 a -ℤ signed w32 b)
result_of level SublV a b old = wrapped w32 (signed w32 a -ℤ signed w32 b)
result_of level S4subl a b old = wrapped w32 (signed w32 a *ℤ pos 4 -ℤ signed w32 b)
result_of level S8subl a b old = wrapped w32 (signed w32 a *ℤ pos 8 -ℤ signed w32 b)
result_of level Mull a b old = wrapped w32 (signed w32 a *ℤ signed w32 b)
result_of level MullV a b old = wrapped w32 (signed w32 a *ℤ signed w32 b)
result_of level Addq a b old = wrapped w64 (signed w64 a +ℤ signed w64 b)
result_of level AddqV a b old = wrapped w64 (signed w64 a +ℤ signed w64 b)
result_of level S4addq a b old = wrapped w64 (signed w64 a *ℤ pos 4 +ℤ signed w64 b)
result_of level S8addq a b old = wrapped w64 (signed w64 a *ℤ pos 8 +ℤ signed w64 b)
result_of level Subq a b old = wrapped w64 (signed w64 a -ℤ signed w64 b)
result_of level SubqV a b old = wrapped w64 (signed w64 a -ℤ signed w64 b)
result_of level S4subq a b old = wrapped w64 (signed w64 a *ℤ pos 4 -ℤ signed w64 b)
result_of level S8subq a b old = wrapped w64 (signed w64 a *ℤ pos 8 -ℤ signed w64 b)
result_of level Mulq a b old = wrapped w64 (signed w64 a *ℤ signed w64 b)
result_of level MulqV a b old = wrapped w64 (signed w64 a *ℤ signed w64 b)
result_of level Umulh a b old = a * b / 2 ^ 64
result_of level Sextb a b old = register_of (signed w8 b)
result_of level Sextw a b old = register_of (signed w16 b)
-- compares
result_of level Cmpeq a b old = flag (a == b)
result_of level Cmplt a b old = flag (int_lt (signed w64 a) (signed w64 b))
result_of level Cmple a b old = flag (int_le (signed w64 a) (signed w64 b))
result_of level Cmpult a b old = flag (nat_lt a b)
result_of level Cmpule a b old = flag (nat_le a b)
result_of level Cmpbge a b old = bytes_compared a b
-- logic, and what an implementation says of itself
result_of level And a b old = bit_and a b
result_of level Bis a b old = bit_or a b
result_of level Xor a b old = bit_xor a b
result_of level Bic a b old = bit_and a (complement b)
result_of level Ornot a b old = bit_or a (complement b)
result_of level Eqv a b old = bit_xor a (complement b)
result_of level Amask a b old = bit_and b (complement (features level))
result_of level Implver a b old = implementation level
-- counts: the ones, the zeros above the highest one and those below the lowest
result_of level Ctpop a b old = sum (bits_of b)
result_of level Ctlz a b old = zeros_before_one (reverse (bits_of b))
result_of level Cttz a b old = zeros_before_one (bits_of b)
-- conditional moves
result_of level Cmovlbs a b old = cmov_result Lbs a b old
result_of level Cmovlbc a b old = cmov_result Lbc a b old
result_of level Cmoveq a b old = cmov_result Eq a b old
result_of level Cmovne a b old = cmov_result Ne a b old
result_of level Cmovlt a b old = cmov_result Lt a b old
result_of level Cmovle a b old = cmov_result Le a b old
result_of level Cmovge a b old = cmov_result Ge a b old
result_of level Cmovgt a b old = cmov_result Gt a b old
-- shifts, by Rb modulo 64
result_of level Sll a b old = a * 2 ^ (b % 64) % 2 ^ 64
result_of level Srl a b old = a / 2 ^ (b % 64)
result_of level Sra a b old = register_of (int_shr (signed w64 a) (b % 64))
-- byte forms
result_of level Extbl a b old = extracted_low 1 a b
result_of level Extwl a b old = extracted_low 2 a b
result_of level Extll a b old = extracted_low 4 a b
result_of level Extql a b old = extracted_low 8 a b
result_of level Extwh a b old = extracted_high 2 a b
result_of level Extlh a b old = extracted_high 4 a b
result_of level Extqh a b old = extracted_high 8 a b
result_of level Insbl a b old = inserted 1 a b % 2 ^ 64
result_of level Inswl a b old = inserted 2 a b % 2 ^ 64
result_of level Insll a b old = inserted 4 a b % 2 ^ 64
result_of level Insql a b old = inserted 8 a b % 2 ^ 64
result_of level Inswh a b old = inserted 2 a b / 2 ^ 64
result_of level Inslh a b old = inserted 4 a b / 2 ^ 64
result_of level Insqh a b old = inserted 8 a b / 2 ^ 64
result_of level Mskbl a b old = zapped a (byte_mask 1 b)
result_of level Mskwl a b old = zapped a (byte_mask 2 b)
result_of level Mskll a b old = zapped a (byte_mask 4 b)
result_of level Mskql a b old = zapped a (byte_mask 8 b)
result_of level Mskwh a b old = zapped a (byte_mask 2 b / 2 ^ 8)
result_of level Msklh a b old = zapped a (byte_mask 4 b / 2 ^ 8)
result_of level Mskqh a b old = zapped a (byte_mask 8 b / 2 ^ 8)
result_of level Zap a b old = zapped a b
result_of level Zapnot a b old = zapped a (complement b)
