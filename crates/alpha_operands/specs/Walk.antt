-- Reading operands along the patterns of a shape, a token after the other.
use Rattle.std.specs.Prelude.{ℕ, List, [], ◌∷◌, ◌++◌, Bool, true, false, Option, None, Some, Result, Ok, Err, ◌||◌}
use Rattle.std.specs.Prelude.{if◌then◌else◌}
use Rattle.std.specs.Option.{is_some, option_or}
use Rattle.alpha_token.specs.declared.token.TokenKind.{TokenKind}
use Rattle.alpha_token.specs.declared.token.TokenKind.TheVariants as kinds
use Rattle.alpha_token.specs.Tokens.{Lexeme, Tokens, End, Bad, Next, left_of}
use Rattle.alpha_operands.specs.declared.piece.Piece.{Piece}
use Rattle.alpha_operands.specs.declared.piece.Piece.TheVariants as pieces
use Rattle.alpha_operands.specs.declared.number.Sign.{Sign}
use Rattle.alpha_operands.specs.declared.number.Sign.TheVariants as signs
use Rattle.alpha_operands.specs.declared.operands.LineFaultKind.{LineFaultKind}
use Rattle.alpha_operands.specs.declared.operands.LineFaultKind.TheVariants.{BadToken, UnknownName, BadOperands}
use Rattle.alpha_operands.specs.declared.walk.OperandFault.{OperandFault}
use Rattle.alpha_operands.specs.Pieces.{kind_of, same_kind, same_piece}
use Rattle.alpha_operands.specs.Shapes.{Pattern}
use Rattle.alpha_operands.specs.Names.{register_of, operator_of}
use Rattle.alpha_operands.specs.Operands.{Slots, nothing, filled}

-- what a pattern has behind a front, nothing where it doesn't begin so
abbrev pub rest_of : Pattern → Pattern → Option Pattern
rest_of [] q = Some q
rest_of (a ∷ front) [] = None
rest_of (a ∷ front) (b ∷ q) = if same_piece b a then rest_of front q else None

abbrev pub is_empty : Option Pattern → Bool
is_empty None = false
is_empty (Some []) = true
is_empty (Some (p ∷ q)) = false

-- a front is a whole pattern
abbrev pub is_whole : List Pattern → Pattern → Bool
is_whole [] front = false
is_whole (q ∷ qs) front = is_empty (rest_of front q) || is_whole qs front

-- the first piece, where it has the form of a token
abbrev pub head_of_kind : TokenKind → Option Pattern → Option Piece
head_of_kind kind None = None
head_of_kind kind (Some []) = None
head_of_kind kind (Some (p ∷ q)) = if same_kind (kind_of p) kind then Some p else None

-- the piece behind a front, in the first pattern that goes on with a token of this form
abbrev pub piece_behind : List Pattern → Pattern → TokenKind → Option Piece
piece_behind [] front kind = None
piece_behind (q ∷ qs) front kind = option_or (head_of_kind kind (rest_of front q)) (piece_behind qs front kind)

-- the front behind a further piece: behind the comma of a list the patterns begin anew
abbrev pub front_after : Pattern → Piece → Pattern
front_after front pieces.Again = []
front_after front p = front ++ p ∷ []

-- the sign of a number behind a piece
abbrev pub sign_after : Piece → Sign
sign_after pieces.Minus = signs.Minus
sign_after pieces.Less = signs.Minus
sign_after _ = signs.Plus

-- a register or an operator that isn't in the tables
abbrev pub is_unknown : TokenKind → List ℕ → Bool
is_unknown kinds.Register text = if is_some (register_of text) then false else true
is_unknown kinds.Operator text = if is_some (operator_of text) then false else true
is_unknown _ text = false

-- what is wrong at a token with which no pattern goes on
abbrev pub stuck_at : Lexeme → LineFaultKind
stuck_at t = if is_unknown t.kind t.text then UnknownName else BadOperands

abbrev pub fault : ℕ → LineFaultKind → Result Slots OperandFault
fault left kind = Err (record { left = left; kind = kind })

-- on with the operands that a token gave, or its fault
abbrev pub go_on : ℕ → Result Slots LineFaultKind → (Slots → Result Slots OperandFault) → Result Slots OperandFault
go_on left (Err kind) more = fault left kind
go_on left (Ok o) more = more o

-- on behind a token, where a pattern goes on with it
abbrev pub taken : Lexeme → Sign → Slots → Option Piece → (Piece → Slots → Result Slots OperandFault)
    → Result Slots OperandFault
taken t sign o None more = fault (left_of t) (stuck_at t)
taken t sign o (Some p) more = go_on (left_of t) (filled p t sign o) (more p)

-- the operands of the tokens behind a front of patterns, or the first fault
abbrev pub follow : List Pattern → Pattern → Sign → Tokens → Slots → Result Slots OperandFault
follow all front sign (End left) o = if is_whole all front then Ok o else fault left BadOperands
follow all front sign (Bad left) o = fault left BadToken
follow all front sign (Next t ts) o =
    taken t sign o (piece_behind all front t.kind)
    (λ p filled. follow all (front_after front p) (sign_after p) ts filled)

-- the operands of all the tokens
unfoldable pub operands : List Pattern → Tokens → Result Slots OperandFault
operands all ts = follow all [] signs.Plus ts nothing
