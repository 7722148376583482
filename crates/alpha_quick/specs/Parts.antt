-- What a line says, by its parts.
use Rattle.std.specs.Prelude.{◌≡◌, ◌+◌, ℕ, List, [], ◌∷◌, Bool, true, Option, Some, None, Ok, ◌==◌, ◌&&◌, if◌then◌else◌}
use Rattle.alpha_table.specs.declared.form.Form.{Form}
use Rattle.alpha_table.specs.declared.form.Form.TheVariants.{Misc, Pal}
use Rattle.alpha_table.specs.declared.names.Mnemonic.{Mnemonic}
use Rattle.alpha_table.specs.declared.names.Mnemonic.TheVariants as mnemonics
use Rattle.alpha_token.specs.Bytes.{goes_on_label}
use Rattle.alpha_token.specs.Tokens.{tokens}
use Rattle.alpha_operands.specs.declared.piece.Piece.{Piece}
use Rattle.alpha_operands.specs.declared.piece.Piece.TheVariants as pieces
use Rattle.alpha_operands.specs.Shapes.{patterns}
use Rattle.alpha_operands.specs.Operands.{Slots}
use Rattle.alpha_operands.specs.Walk.{operands}
use Rattle.alpha_text.specs.declared.head.Head.{Head}
use Rattle.alpha_text.specs.declared.head.PseudoOp.{PseudoOp}
use Rattle.alpha_text.specs.declared.head.PseudoOp.TheVariants as owns
use Rattle.alpha_text.specs.Heads.{head_name, pseudo_op_shape}
use Rattle.alpha_text.specs.Statements.{Stmt, code, empty, pseudo_form}
use Rattle.alpha_text.specs.SuffixWords.{IsApart, SaysBy}
use Rattle.alpha_text.specs.Reading.{LineStmt}

-- the instruction that a pseudo-operation stands for with the operands behind it
abbrev pub StandsFor : PseudoOp → List ℕ → Form → Type 0
StandsFor pseudo_op behind i =
    (o : Slots) × (operands (patterns (pseudo_op_shape pseudo_op)) (tokens behind) ≡ Ok o)
    × (pseudo_form pseudo_op o ≡ Some i)

-- how many bytes a value of a directive has, and the piece of its numbers
abbrev pub values_of : PseudoOp → Option (ℕ × Piece)
values_of owns.Byte = Some (1, pieces.Byte)
values_of owns.Word = Some (2, pieces.Word)
values_of owns.Long = Some (4, pieces.Long)
values_of owns.Quad = Some (8, pieces.Quad)
values_of pseudo_op = None

-- an instruction that is its name alone
abbrev pub IsAlone : Mnemonic → Form → Type 0
IsAlone (mnemonics.Misc op) i = i ≡ Misc op
IsAlone (mnemonics.Pal call) i = i ≡ Pal call
IsAlone m i = ⊥

-- the same behind a name, where the name ends there
abbrev pub SaysNamed : List ℕ → List ℕ → Stmt → Type 0
SaysNamed name behind s = (head : Head) × (head_name head ≡ name) × IsApart behind × SaysBy head behind s

-- an instruction without a label
abbrev pub unlabelled : Form → LineStmt
unlabelled insn = record { label = None; statement = code insn }

-- nothing at all
abbrev pub nothing_said : LineStmt
nothing_said = record { label = None; statement = empty }

abbrev pub class_of : ℕ → ℕ
class_of b = if goes_on_label b then 1 else 0

-- the classes of the bytes from n on
abbrev pub are_classes : ℕ → List ℕ → Bool
are_classes n [] = true
are_classes n (c ∷ cs) = c == class_of n && are_classes (n + 1) cs
