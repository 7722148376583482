-- The pieces of patterns of operands.
use Rattle.std.specs.Prelude.{ℕ, Bool, ◌==◌}
use Rattle.alpha_token.specs.declared.token.TokenKind.{TokenKind}
use Rattle.alpha_token.specs.declared.token.TokenKind.TheVariants as kinds
use Rattle.alpha_operands.specs.declared.piece.Piece.{Piece}
use Rattle.alpha_operands.specs.declared.piece.Piece.TheVariants.{Ra, Rb, Rc, Comma, Again, Open, Close, Minus, Plus}
use Rattle.alpha_operands.specs.declared.piece.Piece.TheVariants.{Less, Dot, Operator, Label, Offset, Text}
use Rattle.alpha_operands.specs.declared.piece.Piece.TheVariants.{Displacement, Immediate, Literal, Hint, Distance}
use Rattle.alpha_operands.specs.declared.piece.Piece.TheVariants.{Whole, Zeroed, Align, Level, Pal, Nothing, Byte, Word}
use Rattle.alpha_operands.specs.declared.piece.Piece.TheVariants.{Long, Quad}

-- the form of the token that spells a piece
abbrev pub kind_of : Piece → TokenKind
kind_of Ra = kinds.Register
kind_of Rb = kinds.Register
kind_of Rc = kinds.Register
kind_of Comma = kinds.Comma
kind_of Again = kinds.Comma
kind_of Open = kinds.Open
kind_of Close = kinds.Close
kind_of Minus = kinds.Minus
kind_of Less = kinds.Minus
kind_of Plus = kinds.Plus
kind_of Dot = kinds.Dot
kind_of Operator = kinds.Operator
kind_of Label = kinds.Name
kind_of Text = kinds.Text
kind_of _ = kinds.Number

-- each kind by its number
abbrev pub kind_number : TokenKind → ℕ
kind_number kinds.Name = 0
kind_number kinds.Dot = 1
kind_number kinds.Register = 2
kind_number kinds.Number = 3
kind_number kinds.Operator = 4
kind_number kinds.Text = 5
kind_number kinds.Comma = 6
kind_number kinds.Open = 7
kind_number kinds.Close = 8
kind_number kinds.Colon = 9
kind_number kinds.Plus = 10
kind_number kinds.Minus = 11

abbrev pub same_kind : TokenKind → TokenKind → Bool
same_kind a b = kind_number a == kind_number b

-- each piece by its number
abbrev pub piece_number : Piece → ℕ
piece_number Ra = 0
piece_number Rb = 1
piece_number Rc = 2
piece_number Comma = 3
piece_number Again = 4
piece_number Open = 5
piece_number Close = 6
piece_number Minus = 7
piece_number Plus = 8
piece_number Less = 9
piece_number Dot = 10
piece_number Operator = 11
piece_number Label = 12
piece_number Offset = 13
piece_number Text = 14
piece_number Displacement = 15
piece_number Immediate = 16
piece_number Literal = 17
piece_number Hint = 18
piece_number Distance = 19
piece_number Whole = 20
piece_number Zeroed = 21
piece_number Align = 22
piece_number Level = 23
piece_number Pal = 24
piece_number Nothing = 25
piece_number Byte = 26
piece_number Word = 27
piece_number Long = 28
piece_number Quad = 29

abbrev pub same_piece : Piece → Piece → Bool
same_piece a b = piece_number a == piece_number b
