-- An instruction that reaches an address stays one of the table, and of its level.
use Rattle.std.proofs.Common.{◌≡◌, ℕ, ℤ, pos, negsuc, ◌+◌, ◌%◌, ◌^◌, ◌<◌, ◌≤◌, ◌-ℤ◌, ◌&&◌, eqb, nat_lt, nat_le, Option}
use Rattle.std.proofs.Common.{None, Some, IfSome, refl, arith}
use Rattle.std.specs.Option.{option_map, option_map_or}
use Rattle.std.proofs.lemmas.Bool.Decides.{nat_tests}
use Rattle.std.proofs.lemmas.Int.{ints}
use Rattle.std.proofs.lemmas.Bool.{and_parts}
use Rattle.alpha_table.specs.declared.form.Form.{Form}
use Rattle.alpha_table.specs.declared.form.Form.TheVariants.{Mem, Branch}
use Rattle.alpha_table.specs.Columns.{level_of}
use Rattle.alpha_table.specs.Row.{IsInsn, IsSigned}
use Rattle.alpha_token.proofs.ConditionalChoices.{cond-either}
use Rattle.alpha_asm.specs.declared.statement.RelocField.{RelocField}
use Rattle.alpha_asm.specs.declared.statement.RelocField.TheVariants as uses
use Rattle.alpha_asm.specs.declared.patch.Displacement.{Displacement}
use Rattle.alpha_asm.specs.declared.patch.Displacement.TheVariants.{Words, Bytes}
use Rattle.alpha_asm.specs.Program.{words_over, high_half, low_half, reached, displaced}

-- an instruction of the table, of the level of another one
pub record IsLike (i j : Form) : Type 0 where
  pub insn : IsInsn j
  pub level : level_of j ≡ level_of i

-- a displacement fits the field of its instructions
abbrev FitsField : Displacement → Type 0
FitsField (Words n) = IsSigned 20 n
FitsField (Bytes n) = IsSigned 15 n

displaced-like : (i : Form) (d : Displacement) → FitsField d → IsInsn i → IsLike i (displaced i d)
displaced-like (Branch op ra old) (Words new) f h = record { insn = (h.0, f); level = refl }
displaced-like (Mem op ra rb old) (Bytes new) f h = record { insn = (h.0, h.1, f); level = refl }
displaced-like i d f h = record { insn = h; level = refl }

words_over-field : (d : ℤ) → IfSome (words_over d) FitsField
words_over-field (pos d) =
    cond-either (λ o. IfSome o FitsField) (eqb (d % 4) 0 && nat_lt d (2 ^ 22)) _ _
    (λ e. let h = and_parts (eqb (d % 4) 0) (nat_lt d (2 ^ 22)) e in
    let l : d < 2 ^ 22 = grind (arith, nat_tests) in
    (omega (arith, ints), omega (arith, ints)))
    (λ e. tt)
words_over-field (negsuc d) =
    cond-either (λ o. IfSome o FitsField) (eqb ((d + 1) % 4) 0 && nat_le (d + 1) (2 ^ 22)) _ _
    (λ e. let h = and_parts (eqb ((d + 1) % 4) 0) (nat_le (d + 1) (2 ^ 22)) e in
    let l : d + 1 ≤ 2 ^ 22 = grind (arith, nat_tests) in
    (omega (arith, ints), omega (arith, ints)))
    (λ e. tt)

high-field : (a : ℤ) → IfSome (reached uses.High 0 a) FitsField
high-field (pos n) =
    cond-either (λ o. IfSome (option_map (λ n. Bytes (pos (high_half n))) o) FitsField) (nat_le n (2 ^ 30))
    (Some n) None
    (λ e. let l : n ≤ 2 ^ 30 = grind (arith, nat_tests) in (omega (arith, ints), omega (arith, ints)))
    (λ e. tt)
high-field (negsuc n) = tt

low-field : (a : ℤ) → IfSome (reached uses.Low 0 a) FitsField
low-field (pos n) =
    cond-either (λ o. IfSome (option_map (λ n. Bytes (low_half n)) o) FitsField) (nat_le n (2 ^ 30)) (Some n) None
    (λ e. (omega (arith, ints), omega (arith, ints)))
    (λ e. tt)
low-field (negsuc n) = tt

reached-field : (field : RelocField) (pc : ℕ) (a : ℤ) → IfSome (reached field pc a) FitsField
reached-field uses.Branch pc a = words_over-field (a -ℤ pos (pc + 4))
reached-field uses.High pc a = high-field a
reached-field uses.Low pc a = low-field a

like_some : (i : Form) (d : Option Displacement) → IfSome d FitsField → IsInsn i
    → IsLike i (option_map_or (displaced i) d i)
like_some i None f h = record { insn = h; level = refl }
like_some i (Some d) f h = displaced-like i d f h

pub reaches-like : (field : RelocField) (pc : ℕ) (a : ℤ) (i : Form) → IsInsn i
    → IsLike i (option_map_or (displaced i) (reached field pc a) i)
reaches-like field pc a i h = like_some i (reached field pc a) (reached-field field pc a) h
