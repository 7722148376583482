-- The word of an instruction: its opcode and each operand at its place.
use Rattle.std.specs.Prelude.{ℕ, ℤ, pos, negsuc, ◌+◌, ◌-◌, ◌*◌, ◌^◌}
use Rattle.alpha_table.specs.declared.form.Src.{Src}
use Rattle.alpha_table.specs.declared.form.Src.TheVariants.{Reg, Lit}
use Rattle.alpha_table.specs.declared.form.Form.{Form}
use Rattle.alpha_table.specs.declared.form.Form.TheVariants.{Mem, Branch, Jump, Operate, Misc, Fetch, Pal}
use Rattle.alpha_table.specs.Op.{op_row}
use Rattle.alpha_table.specs.Rows.{mem_row, branch_row, jump_kind, misc_row, fetch_function, pal_function}

-- the two's complement of a signed number, from its full range
unfoldable pub digits : ℕ → ℤ → ℕ
digits full (pos n) = n
digits full (negsuc n) = full - 1 - n

-- the fields of a second source: bit 12 tells a literal
unfoldable pub source : Src → ℕ
source (Reg r) = r * 2 ^ 16
source (Lit n) = n * 2 ^ 13 + 2 ^ 12

-- the word, by format
unfoldable pub encoded : Form → ℕ
encoded (Mem op ra rb disp) = (mem_row op).opcode * 2 ^ 26 + ra * 2 ^ 21 + rb * 2 ^ 16 + digits (2 ^ 16) disp
encoded (Branch op ra disp) = (branch_row op).opcode * 2 ^ 26 + ra * 2 ^ 21 + digits (2 ^ 21) disp
encoded (Jump kind ra rb hint) = 0x1a * 2 ^ 26 + ra * 2 ^ 21 + rb * 2 ^ 16 + jump_kind kind * 2 ^ 14 + hint
encoded (Operate op ra src rc) =
    (op_row op).opcode * 2 ^ 26 + ra * 2 ^ 21 + source src + (op_row op).function * 2 ^ 5 + rc
encoded (Misc op) = 0x18 * 2 ^ 26 + 31 * 2 ^ 21 + 31 * 2 ^ 16 + (misc_row op).function
encoded (Fetch modify rb) = 0x18 * 2 ^ 26 + 31 * 2 ^ 21 + rb * 2 ^ 16 + fetch_function modify
encoded (Pal call) = pal_function call
