-- The instruction at the front of a line, and what the words that are left make of it.
use Rattle.std.specs.Prelude.{◌≡◌, ℕ, ℤ, pos, List, true, false, None, Some, Ok}
use Rattle.alpha_table.specs.declared.form.Form.{Form}
use Rattle.alpha_table.specs.declared.form.Form.TheVariants.{Mem, Branch}
use Rattle.alpha_token.specs.Tokens.{tokens}
use Rattle.alpha_operands.specs.declared.names.Half.{Half}
use Rattle.alpha_text.specs.Statements.{Stmt, code, target, half_stmt}
use Rattle.alpha_text.specs.Reading.{statement_of, line_of}
use Rattle.alpha_quick.specs.declared.forms.InsnPrefix.{InsnPrefix}
use Rattle.alpha_quick.specs.Words.{HasAddress, HasTail, HasTarget}

-- an instruction that is to reach the label of these words, and the statement that they make
abbrev pub Reaches : Form → List ℕ → Stmt → Type 0
Reaches (Mem op ra rb disp) left s =
    (half : Half) × (label : List ℕ) × (offset : ℤ) × (rest : List ℕ)
    × (base : ℕ) × HasAddress left half label offset rest × HasTail rest base
    × (half_stmt (Some half) (Mem op ra base (pos 0)) label offset ≡ s)
Reaches (Branch op ra disp) left s =
    (label : List ℕ) × (offset : ℤ) × HasTarget left label offset × (target (Branch op ra disp) label offset ≡ s)
Reaches i left s = ⊥

-- a lead is an instruction of which something is so, or it is so of each statement that the words make
abbrev pub PrefixSays : (Stmt → Type 0) → InsnPrefix → Type 0
PrefixSays P l =
    (l.reaches ≡ false → P (code l.insn)) × (l.reaches ≡ true → (s : Stmt) → Reaches l.insn l.left.now s → P s)

-- a line has this statement, and no label; and so has what stands behind a label
abbrev pub HasStatement : List ℕ → Stmt → Type 0
HasStatement line s =
    (statement_of (tokens line) ≡ Ok s) × (line_of (tokens line) ≡ Ok (record { label = None; statement = s }))
