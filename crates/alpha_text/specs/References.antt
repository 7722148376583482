-- What a line says of the labels that it defines and names.
use Rattle.std.specs.Prelude.{⊤, ◌≡◌, ◌≤◌, ◌<◌, ◌^◌, ◌+◌, ℕ, ℤ, pos, negsuc, List, length, true, IfSome}
use Rattle.std.specs.List.{AllByRecursion}
use Rattle.alpha_table.specs.declared.form.Form.{Form}
use Rattle.alpha_table.specs.declared.form.Form.TheVariants.{Mem, Branch}
use Rattle.alpha_token.specs.Bytes.{is_label}
use Rattle.alpha_operands.specs.Values.{Listed, number, label as listed_label, AreValuesOf}
use Rattle.alpha_text.specs.Statements.{Stmt, target, high, low, entry_label, values}
use Rattle.alpha_text.specs.Reading.{LineStmt}

-- from -(2 ^ 31 - 1) to 2 ^ 31 - 1
abbrev pub IsOffset : ℤ → Type 0
IsOffset (pos n) = n < 2 ^ 31
IsOffset (negsuc n) = n + 1 < 2 ^ 31

-- a label of at most n bytes
abbrev pub IsLabel : ℕ → List ℕ → Type 0
IsLabel n name = (is_label name ≡ true) × (length name ≤ n)

abbrev pub IsReference : ℕ → List ℕ → ℤ → Type 0
IsReference n name offset = IsLabel n name × IsOffset offset

-- an instruction with displacement 0, of the kind that takes a number of words, or of bytes
abbrev pub HasNoWords : Form → Type 0
HasNoWords (Branch op ra disp) = disp ≡ pos 0
HasNoWords insn = ⊥

abbrev pub HasNoBytes : Form → Type 0
HasNoBytes (Mem op ra rb disp) = disp ≡ pos 0
HasNoBytes insn = ⊥

abbrev pub IsListedWell : ℕ → Listed → Type 0
IsListedWell n (number value) = ⊤
IsListedWell n (listed_label name offset) = IsReference n name offset

-- each address of a label that a statement of a line of n bytes names, and the instruction that it is put into
abbrev pub RefersWell : ℕ → Stmt → Type 0
RefersWell n (target insn name offset) = HasNoWords insn × IsReference n name offset
RefersWell n (high insn name offset) = HasNoBytes insn × IsReference n name offset
RefersWell n (low insn name offset) = HasNoBytes insn × IsReference n name offset
RefersWell n (entry_label name offset) = IsReference n name offset
RefersWell n (values bytes list) =
    (all : List Listed) → AreValuesOf bytes list all → AllByRecursion (IsListedWell n) all
RefersWell n _ = ⊤

pub record IsWell (n : ℕ) (l : LineStmt) : Type 0 where
  pub label : IfSome l.label (IsLabel n)
  pub statement : RefersWell n l.statement
