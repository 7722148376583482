-- The line grammar and the places of a line's faults, apart from how a line is read.
use Rattle.std.specs.Prelude.{◌≡◌, ◌⊎◌, ℕ, ◌+◌, ◌-◌, List, true, false, Some, None, length, [], drop, slice_index}
use Rattle.alpha_token.specs.Bytes.{is_label}
use Rattle.alpha_token.specs.declared.token.TokenKind.TheVariants as kinds
use Rattle.alpha_token.specs.Tokens.{Tokens, End, Bad, Next, left_of, tokens}
use Rattle.alpha_operands.specs.declared.number.Sign.TheVariants as signs
use Rattle.alpha_operands.specs.declared.operands.LineFaultKind.TheVariants.{BadToken, UnknownName, BadOperands}
use Rattle.alpha_operands.specs.declared.walk.OperandFault.{OperandFault}
use Rattle.alpha_operands.specs.Shapes.{patterns}
use Rattle.alpha_operands.specs.Operands.{Slots}
use Rattle.alpha_operands.specs.Grammar.{AreOperands, AmongTokens, HasFault, NoLater, fault_at}
use Rattle.alpha_text.specs.declared.head.Head.{Head}
use Rattle.alpha_text.specs.declared.reader.LineFault.{LineFault}
use Rattle.alpha_text.specs.Heads.{head_of, shape_of}
use Rattle.alpha_text.specs.Statements.{Stmt, empty, stmt_by}
use Rattle.alpha_text.specs.Reading.{LineStmt, list_in}

-- at most one statement: a name of the tables, and operands that a pattern of its shape spells
abbrev pub IsStatement : Tokens → Stmt → Type 0
IsStatement (End left) s = s ≡ empty
IsStatement (Bad left) s = ⊥
IsStatement (Next t ts) s =
    (t.kind ≡ kinds.Name) × (head : Head) × (head_of t.text ≡ Some head) × (o : Slots)
    × AreOperands (patterns (shape_of head)) ts o × (s ≡ stmt_by head o (list_in t.rest o.left))

-- a name with a colon directly behind it
abbrev pub IsLabelled : Tokens → Type 0
IsLabelled (End left) = ⊥
IsLabelled (Bad left) = ⊥
IsLabelled (Next t ts) = (t.kind ≡ kinds.Name) × (slice_index t.rest 0 ≡ 58)

-- a label of the right form and a statement behind its colon
abbrev pub IsBehindLabel : Tokens → LineStmt → Type 0
IsBehindLabel (End left) l = ⊥
IsBehindLabel (Bad left) l = ⊥
IsBehindLabel (Next t ts) l =
    (is_label t.text ≡ true) × (l.label ≡ Some t.text) × IsStatement (tokens (drop 1 t.rest)) l.statement

-- an optional label, and then at most one statement
abbrev pub IsLine : Tokens → LineStmt → Type 0
IsLine ts l =
    (IsLabelled ts × IsBehindLabel ts l) ⊎ ((IsLabelled ts → ⊥) × (l.label ≡ None) × IsStatement ts l.statement)

-- Each fault of a statement: one among its tokens; a first token that is no name; a name that is in no table; and
-- those of the operands of a name that is in one.
abbrev pub StatementFault : Tokens → OperandFault → Type 0
StatementFault (End left) f = ⊥
StatementFault (Bad left) f = f ≡ fault_at left BadToken
StatementFault (Next t ts) f =
    AmongTokens (Next t ts) f
    ⊎ (((t.kind ≡ kinds.Name → ⊥) × (f ≡ fault_at (left_of t) BadOperands))
    ⊎ (((t.kind ≡ kinds.Name) × (head_of t.text ≡ None) × (f ≡ fault_at (left_of t) UnknownName))
    ⊎ ((t.kind ≡ kinds.Name) × (head : Head) × (head_of t.text ≡ Some head)
    × HasFault (patterns (shape_of head)) [] signs.Plus ts f)))

-- a label of a wrong form, or a fault of the statement behind the label
abbrev pub LabelFault : Tokens → OperandFault → Type 0
LabelFault (End left) f = ⊥
LabelFault (Bad left) f = ⊥
LabelFault (Next t ts) f =
    ((is_label t.text ≡ false) × (f ≡ fault_at (left_of t) BadOperands)) ⊎ StatementFault (tokens (drop 1 t.rest)) f

-- each fault of a line
abbrev pub LineHasFault : Tokens → OperandFault → Type 0
LineHasFault ts f = (IsLabelled ts × LabelFault ts f) ⊎ ((IsLabelled ts → ⊥) × StatementFault ts f)

-- the first fault of a line: no other stands before it, or at its column and is of a lesser kind; columns are numbered
-- from 1
abbrev pub IsFirstFault : List ℕ → LineFault → Type 0
IsFirstFault line f =
    (g : OperandFault) × LineHasFault (tokens line) g
    × ((other : OperandFault) → LineHasFault (tokens line) other → NoLater g other)
    × (f ≡ record { kind = g.kind; column = length line + 1 - g.left })
