-- The canonical line of an instruction.
use Rattle.std.specs.Prelude.{ℕ, ℤ, pos, negsuc, List, [], ◌∷◌, ◌++◌, ◌+◌, ◌*◌, decimal}
use Prim.Native.Nat.{zero, suc}
use Rattle.alpha_table.specs.declared.op.OperandRule.{OperandRule}
use Rattle.alpha_table.specs.declared.op.OperandRule.TheVariants.{Any, Unary, UnaryRegister, Version}
use Rattle.alpha_table.specs.declared.form.Src.{Src}
use Rattle.alpha_table.specs.declared.form.Src.TheVariants.{Reg, Lit}
use Rattle.alpha_table.specs.declared.form.Form.{Form}
use Rattle.alpha_table.specs.declared.form.Form.TheVariants.{Mem, Branch, Jump, Operate, Misc, Fetch, Pal}
use Rattle.alpha_table.specs.Op.{op_row}
use Rattle.alpha_table.specs.Names.{name_of, mnemonic_of}

-- a word of a canonical line: a register, a number, or the byte of a mark
pub data Word : Type 0 where
  reg : (number : ℕ) → Word
  num : (value : ℕ) → Word
  mark : (byte : ℕ) → Word

abbrev pub spelled : Word → List ℕ
spelled (reg r) = 36 ∷ decimal r
spelled (num n) = decimal n
spelled (mark b) = b ∷ []

-- the words one behind the other
abbrev pub spell : List Word → List ℕ
spell [] = []
spell (w ∷ ws) = spelled w ++ spell ws

-- `-` before the number where it is below 0
abbrev pub signed_words : ℤ → List Word
signed_words (pos n) = num n ∷ []
signed_words (negsuc n) = mark 45 ∷ num (n + 1) ∷ []

-- `.+N` or `.-N`, where N is 4 + 4 * displacement without its sign
abbrev pub distance_words : ℤ → List Word
distance_words (pos n) = mark 46 ∷ mark 43 ∷ num (4 * n + 4) ∷ []
distance_words (negsuc zero) = mark 46 ∷ mark 43 ∷ num 0 ∷ []
distance_words (negsuc (suc n)) = mark 46 ∷ mark 45 ∷ num (4 * n + 4) ∷ []

abbrev pub source_word : Src → Word
source_word (Reg r) = reg r
source_word (Lit n) = num n

-- a register and a comma
abbrev pub first_words : ℕ → List Word
first_words ra = reg ra ∷ mark 44 ∷ []

abbrev pub base_words : ℕ → List Word
base_words rb = mark 40 ∷ reg rb ∷ mark 41 ∷ []

-- what an operate instruction has before its destination
abbrev pub source_words : OperandRule → ℕ → Src → List Word
source_words Any ra src = first_words ra ++ (source_word src ∷ mark 44 ∷ [])
source_words Unary ra src = source_word src ∷ mark 44 ∷ []
source_words UnaryRegister ra src = source_word src ∷ mark 44 ∷ []
source_words Version ra src = []

-- the words behind the name
abbrev pub words_of : Form → List Word
words_of (Mem op ra rb disp) = first_words ra ++ (signed_words disp ++ base_words rb)
words_of (Branch op ra disp) = first_words ra ++ distance_words disp
words_of (Jump kind ra rb hint) = first_words ra ++ (base_words rb ++ (mark 44 ∷ num hint ∷ []))
words_of (Operate op ra src rc) = source_words (op_row op).operands ra src ++ (reg rc ∷ [])
words_of (Misc op) = []
words_of (Fetch modify rb) = num 0 ∷ base_words rb
words_of (Pal call) = []

-- the words behind a space, if there are any
abbrev pub behind_name : List Word → List ℕ
behind_name [] = []
behind_name (w ∷ ws) = 32 ∷ spell (w ∷ ws)

-- the canonical line of an instruction
unfoldable pub canon : Form → List ℕ
canon i = name_of (mnemonic_of i) ++ behind_name (words_of i)
