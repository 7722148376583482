-- The second source of an operate instruction.
use Rattle.std.specs.Prelude.{ℕ, List}
use Rattle.alpha_words.specs.Regs.{reg}
use Rattle.alpha_table.specs.declared.form.Src.{Src}
use Rattle.alpha_table.specs.declared.form.Src.TheVariants.{Reg, Lit}

-- its value: that of a register, or a literal
abbrev pub source_value : List ℕ → Src → ℕ
source_value regs (Reg rb) = reg regs rb
source_value regs (Lit n) = n
