-- What a statement asks of the assembler, apart from where it stands.
use Rattle.std.specs.Prelude.{ℕ, zero, suc, ℤ, pos, negsuc, Bool, true, false, ◌==◌, ◌||◌, List, [], ◌∷◌, length, map}
use Rattle.std.specs.Prelude.{sum_by, Option, None, Some}
use Rattle.alpha_table.specs.declared.form.Form.{Form}
use Rattle.alpha_table.specs.declared.form.Form.TheVariants as forms
use Rattle.alpha_table.specs.declared.rows.MemOp.TheVariants.{Lda, Ldah}
use Rattle.alpha_token.specs.Quoted.{first_byte}
use Rattle.alpha_operands.specs.Values.{Listed, next_of}
use Rattle.alpha_operands.specs.Values as listed
use Rattle.alpha_text.specs.Statements.{Stmt}
use Rattle.alpha_text.specs.Statements as says
use Rattle.alpha_asm.specs.declared.statement.RelocField.{RelocField}
use Rattle.alpha_asm.specs.declared.statement.RelocField.TheVariants.{Branch, High, Low}
use Rattle.alpha_asm.specs.declared.place.Section.{Section}
use Rattle.alpha_asm.specs.declared.place.Section.TheVariants.{Code, Data}

-- The instruction that an address goes into by this use: a branch, an LDAH, an LDA. A program may have half of an
-- address in any other memory instruction too, a module in these alone.
abbrev pub applies_to : RelocField → Form → Bool
applies_to Branch (forms.Branch op ra disp) = true
applies_to High (forms.Mem Ldah ra rb disp) = true
applies_to Low (forms.Mem Lda ra rb disp) = true
applies_to field insn = false

-- LDAH or LDA
abbrev pub half_applies : Form → Bool
half_applies insn = applies_to High insn || applies_to Low insn

abbrev pub is_zero : ℤ → Bool
is_zero (pos n) = n == 0
is_zero (negsuc n) = false

-- the address of a label, with an offset
pub record Reference : Type 0 where
  pub label : List ℕ
  pub offset : ℤ

abbrev pub to : List ℕ → ℤ → Reference
to label offset = record { label = label; offset = offset }

-- an instruction, and what its displacement is to reach, if it is to reach an address
pub record InsnStmt : Type 0 where
  pub insn : Form
  pub reach : Option (RelocField × Reference)

-- the instruction of a statement
abbrev pub coded : Stmt → Option InsnStmt
coded (says.code insn) = Some (record { insn = insn; reach = None })
coded (says.target insn label offset) = Some (record { insn = insn; reach = Some (Branch, to label offset) })
coded (says.high insn label offset) = Some (record { insn = insn; reach = Some (High, to label offset) })
coded (says.low insn label offset) = Some (record { insn = insn; reach = Some (Low, to label offset) })
coded _ = None

-- a value of data: a number of so many bytes, or an address of 8 bytes
pub data Cell : Type 0 where
  number : (bytes value : ℕ) → Cell
  address : (reference : Reference) → Cell

abbrev pub cell_size : Cell → ℕ
cell_size (number bytes value) = bytes
cell_size (address reference) = 8

-- the first of a list, and those of what is behind it
abbrev pub then_more : {A : Type 0} → Option (A × List ℕ) → (List ℕ → List A) → List A
then_more None more = []
then_more (Some first) more = first.0 ∷ more first.1

-- the values of a list, each of so many bytes; there are no more of them than the list has bytes
abbrev pub values_up_to : ℕ → ℕ → List ℕ → List Listed
values_up_to zero bytes list = []
values_up_to (suc n) bytes list = then_more (next_of bytes list) (values_up_to n bytes)

-- the bytes that the text of a string stands for; there are no more of them than the text has bytes
abbrev pub bytes_up_to : ℕ → List ℕ → List ℕ
bytes_up_to zero text = []
bytes_up_to (suc n) text = then_more (first_byte text) (bytes_up_to n)

abbrev pub cell_of : ℕ → Listed → Cell
cell_of bytes (listed.number value) = number bytes value
cell_of bytes (listed.label name offset) = address (to name offset)

-- the values of data of a statement
unfoldable pub cells : Stmt → List Cell
cells (says.values bytes list) = map (cell_of bytes) (values_up_to (length list) bytes list)
cells (says.text text) = map (number 1) (bytes_up_to (length text) text)
cells _ = []

-- how many data bytes they take
abbrev pub data_size : Stmt → ℕ
data_size s = sum_by cell_size (cells s)

-- the section that a statement turns to
abbrev pub section_in : Stmt → Option Section
section_in says.code_section = Some Code
section_in says.data_section = Some Data
section_in (says.segment base) = Some Data
section_in _ = None

abbrev pub level_in : Stmt → Option ℕ
level_in (says.level n) = Some n
level_in _ = None

-- the base of a segment that begins
abbrev pub segment_in : Stmt → Option ℕ
segment_in (says.segment base) = Some base
segment_in _ = None

-- the zeroed bytes that a `.zero` asks for
abbrev pub zero_bytes_in : Stmt → Option ℕ
zero_bytes_in (says.zero n) = Some n
zero_bytes_in _ = None

-- the power of two that an `.align` asks for
abbrev pub align_in : Stmt → Option ℕ
align_in (says.align n) = Some n
align_in _ = None

-- whether there is a statement at all
abbrev pub is_statement : Stmt → Bool
is_statement says.empty = false
is_statement _ = true

-- where a program begins
pub data Entry : Type 0 where
  entry_at : (place : ℕ) → Entry
  entry_of : (reference : Reference) → Entry

-- the fields
abbrev pub code_base_in : Stmt → Option ℕ
code_base_in (says.code_base n) = Some n
code_base_in _ = None

abbrev pub data_base_in : Stmt → Option ℕ
data_base_in (says.data_base n) = Some n
data_base_in _ = None

abbrev pub stack_in : Stmt → Option ℕ
stack_in (says.stack n) = Some n
stack_in _ = None

abbrev pub entry_in : Stmt → Option Entry
entry_in (says.entry_at n) = Some (entry_at n)
entry_in (says.entry_label label offset) = Some (entry_of (to label offset))
entry_in _ = None
