-- The names of the instructions.
use Rattle.std.specs.Prelude.{ℕ, Bool, true, List, [], ◌∷◌, ◌&&◌}
use Rattle.std.specs.Ordering.{nat_cmp, is_lt}
use Rattle.std.specs.Cmp.Lexicographic.{slice_cmp}
use Rattle.alpha_table.specs.declared.names.Mnemonic.{Mnemonic}
use Rattle.alpha_table.specs.declared.names.Mnemonic.TheVariants as mnemonics
use Rattle.alpha_table.specs.declared.form.Form.{Form}
use Rattle.alpha_table.specs.declared.form.Form.TheVariants.{Mem, Branch, Jump, Operate, Misc, Fetch, Pal}
use Rattle.alpha_table.specs.Op.{op_name}
use Rattle.alpha_table.specs.Rows.{mem_name, branch_name, jump_name, misc_name, fetch_name, pal_name}

-- the bytes of the name
abbrev pub name_of : Mnemonic → List ℕ
name_of (mnemonics.Mem op) = mem_name op
name_of (mnemonics.Branch op) = branch_name op
name_of (mnemonics.Jump kind) = jump_name kind
name_of (mnemonics.Operate op) = op_name op
name_of (mnemonics.Misc op) = misc_name op
name_of (mnemonics.Fetch modify) = fetch_name modify
name_of (mnemonics.Pal call) = pal_name call

-- what an instruction's name stands for
abbrev pub mnemonic_of : Form → Mnemonic
mnemonic_of (Mem op ra rb disp) = mnemonics.Mem op
mnemonic_of (Branch op ra disp) = mnemonics.Branch op
mnemonic_of (Jump kind ra rb hint) = mnemonics.Jump kind
mnemonic_of (Operate op ra src rc) = mnemonics.Operate op
mnemonic_of (Misc op) = mnemonics.Misc op
mnemonic_of (Fetch modify rb) = mnemonics.Fetch modify
mnemonic_of (Pal call) = mnemonics.Pal call

-- whether each name comes before the next, byte by byte
abbrev pub ascends : List Mnemonic → Bool
ascends [] = true
ascends (m ∷ []) = true
ascends (m ∷ (n ∷ rest)) = is_lt (slice_cmp nat_cmp (name_of m) (name_of n)) && ascends (n ∷ rest)
