-- The rows of a program: each but those that leave says what the word at its place does.
use Rattle.std.specs.Prelude.{◌≡◌, ◌≢◌, ℕ, ◌+◌, ◌≤◌, List, length, slice_get, Some}
use Rattle.std.specs.Option.{option_and_then}
use Rattle.alpha_table.specs.declared.form.Form.{Form}
use Rattle.alpha_table.specs.Decoded.{decoded}
use Rattle.alpha_table.specs.ClassOf.{class_of}
use Rattle.alpha_mem.specs.Block.{Block}
use Rattle.alpha_image.specs.Parts.{Parts}
use Rattle.alpha_seq.specs.FastSteps.{ExecutesFast}
use Rattle.alpha_rows.specs.declared.row.Row.{Row}
use Rattle.alpha_rows.specs.Meaning.{leaves, meaning_of, Denotes}

-- the instruction at a place, of which a row says what it is
pub record DenotesInsn (p : Parts) (k : ℕ) (s : Row) : Type 0 where
  pub insn : Form
  pub there : option_and_then decoded (slice_get p.words k) ≡ Some insn
  pub denoted : Denotes (meaning_of s.op) s (length p.words) k insn

-- a row that leaves says nothing, so that any row may leave
abbrev pub IsRowAt : Parts → ℕ → Row → Type 0
IsRowAt p k s = meaning_of s.op ≢ leaves → DenotesInsn p k s

-- a row a word, and one more behind them
pub record IsRows (p : Parts) (rows : List Row) : Type 0 where
  pub size : length rows ≡ length p.words + 1
  pub each : (k : ℕ) (s : Row) → slice_get rows k ≡ Some s → IsRowAt p k s

-- The word at a place only goes on, from these registers and this memory to those, and to a place of the rows.
pub record ExecutesRow (p : Parts) (regs : List ℕ) (mem : List Block) (k : ℕ)
    (regs' : List ℕ) (mem' : List Block) (k' : ℕ) : Type 0 where
  pub insn : Form
  pub there : option_and_then decoded (slice_get p.words k) ≡ Some insn
  pub executes : ExecutesFast p (class_of insn) regs mem k regs' mem' k'
  pub within : k' ≤ length p.words
