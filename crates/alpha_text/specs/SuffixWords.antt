-- What stands behind a name, read apart from the name.
use Rattle.std.specs.Prelude.{◌≡◌, ℕ, List, [], ◌∷◌, Bool, false, Ok, ⊤, ◌==◌}
use Rattle.alpha_table.specs.declared.names.Mnemonic.{Mnemonic}
use Rattle.alpha_token.specs.Bytes.{goes_on_name}
use Rattle.alpha_token.specs.Tokens.{tokens}
use Rattle.alpha_operands.specs.Shapes.{patterns}
use Rattle.alpha_operands.specs.Operands.{Slots}
use Rattle.alpha_operands.specs.Walk.{operands}
use Rattle.alpha_text.specs.declared.head.Head.TheVariants as heads
use Rattle.alpha_text.specs.declared.head.Head.{Head}
use Rattle.alpha_text.specs.Heads.{shape_of}
use Rattle.alpha_text.specs.Statements.{Stmt, insn_stmt, stmt_by}
use Rattle.alpha_text.specs.Reading.{list_in}

-- a list doesn't begin with what passes a test
abbrev pub BeginsWithout : (ℕ → Bool) → List ℕ → Type 0
BeginsWithout p [] = ⊤
BeginsWithout p (b ∷ s) = p b ≡ false

-- the operands behind a name say, with the name, so much
abbrev pub Says : Mnemonic → List ℕ → Stmt → Type 0
Says m behind s =
    (o : Slots) × (operands (patterns (shape_of (heads.Insn m))) (tokens behind) ≡ Ok o) × (insn_stmt m o ≡ s)

-- the operands behind any name say so much
abbrev pub SaysBy : Head → List ℕ → Stmt → Type 0
SaysBy head behind s =
    (o : Slots) × (operands (patterns (shape_of head)) (tokens behind) ≡ Ok o)
    × (stmt_by head o (list_in behind o.left) ≡ s)

-- it doesn't go on a name, and isn't the colon of a label
abbrev pub IsApart : List ℕ → Type 0
IsApart [] = ⊤
IsApart (b ∷ s) = (goes_on_name b ≡ false) × ((b == 58) ≡ false)
