-- Reading a line of source.
use Rattle.std.specs.Prelude.{ℕ, List, Bool, Option, None, Some, Result, Ok, Err, length, take, drop, slice_index, ◌+◌}
use Rattle.std.specs.Prelude.{◌-◌, ◌==◌, ◌&&◌, if◌then◌else◌}
use Rattle.std.specs.Option.{option_map}
use Rattle.std.specs.List.{prefix_len}
use Rattle.alpha_token.specs.declared.token.TokenKind.TheVariants as kinds
use Rattle.alpha_token.specs.Bytes.{is_blank, is_label}
use Rattle.alpha_token.specs.Tokens.{Lexeme, Tokens, End, Bad, Next, left_of, tokens}
use Rattle.alpha_operands.specs.declared.operands.LineFaultKind.TheVariants.{BadToken, UnknownName, BadOperands}
use Rattle.alpha_operands.specs.declared.walk.OperandFault.{OperandFault}
use Rattle.alpha_operands.specs.Pieces.{same_kind}
use Rattle.alpha_operands.specs.Shapes.{patterns}
use Rattle.alpha_operands.specs.Operands.{Slots}
use Rattle.alpha_operands.specs.Walk.{operands, stuck_at}
use Rattle.alpha_operands.specs.Grammar.{fault_at}
use Rattle.alpha_text.specs.declared.head.Head.{Head}
use Rattle.alpha_text.specs.declared.reader.Item.{Item}
use Rattle.alpha_text.specs.declared.reader.LineFault.{LineFault}
use Rattle.alpha_text.specs.Heads.{head_of, shape_of}
use Rattle.alpha_text.specs.Statements.{Stmt, empty, stmt_of, stmt_by}

-- what a line says: its label, if it has one, and its statement
pub record LineStmt : Type 0 where
  pub label : Option (List ℕ)
  pub statement : Stmt

abbrev pub line_stmt_of : Item → LineStmt
line_stmt_of i = record { label = option_map (λ s. s.now) i.label; statement = stmt_of i.statement }

-- what stands behind a name, from its first token to where so many bytes are left
abbrev pub list_in : List ℕ → ℕ → List ℕ
list_in behind left = let list = drop (prefix_len is_blank behind) behind in take (length list - left) list

-- the statement of a name with the operands behind it
abbrev pub with_operands : Head → List ℕ → Result Slots OperandFault → Result Stmt OperandFault
with_operands head behind (Err f) = Err f
with_operands head behind (Ok o) = Ok (stmt_by head o (list_in behind o.left))

abbrev pub with_head : Lexeme → Tokens → Option Head → Result Stmt OperandFault
with_head t ts None = Err (fault_at (left_of t) UnknownName)
with_head t ts (Some head) = with_operands head t.rest (operands (patterns (shape_of head)) ts)

-- a statement that begins with a token
abbrev pub statement_from : Lexeme → Tokens → Result Stmt OperandFault
statement_from t ts =
    if same_kind t.kind kinds.Name then with_head t ts (head_of t.text) else Err (fault_at (left_of t) (stuck_at t))

-- at most one statement
abbrev pub statement_of : Tokens → Result Stmt OperandFault
statement_of (End left) = Ok empty
statement_of (Bad left) = Err (fault_at left BadToken)
statement_of (Next t ts) = statement_from t ts

-- a name with a colon directly behind it
abbrev pub is_labelled : Lexeme → Bool
is_labelled t = same_kind t.kind kinds.Name && slice_index t.rest 0 == 58

abbrev pub labelled : Option (List ℕ) → Result Stmt OperandFault → Result LineStmt OperandFault
labelled label (Err f) = Err f
labelled label (Ok s) = Ok (record { label = label; statement = s })

-- a label of a wrong form is a fault at its name
abbrev pub line_after_label : Lexeme → Result LineStmt OperandFault
line_after_label t =
    if is_label t.text then labelled (Some t.text) (statement_of (tokens (drop 1 t.rest)))
    else Err (fault_at (left_of t) BadOperands)

-- an optional label, and then at most one statement
abbrev pub line_of : Tokens → Result LineStmt OperandFault
line_of (End left) = labelled None (statement_of (End left))
line_of (Bad left) = labelled None (statement_of (Bad left))
line_of (Next t ts) = if is_labelled t then line_after_label t else labelled None (statement_of (Next t ts))

-- columns are numbered from 1
abbrev pub located : ℕ → Result LineStmt OperandFault → Result LineStmt LineFault
located size (Ok item) = Ok item
located size (Err f) = Err (record { kind = f.kind; column = size + 1 - f.left })

-- the item of a line, or its first fault
unfoldable pub read : List ℕ → Result LineStmt LineFault
read line = located (length line) (line_of (tokens line))
