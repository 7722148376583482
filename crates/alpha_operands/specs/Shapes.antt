-- The patterns of operands: each canonical and each further accepted spelling, by the forms of its tokens.
use Rattle.std.specs.Prelude.{List, [], ◌∷◌, ◌++◌, map}
use Rattle.std.specs.List.{flat_map}
use Rattle.alpha_operands.specs.declared.piece.Piece.{Piece}
use Rattle.alpha_operands.specs.declared.piece.Piece.TheVariants.{Ra, Rb, Rc, Comma, Again, Open, Close, Minus, Plus}
use Rattle.alpha_operands.specs.declared.piece.Piece.TheVariants.{Less, Dot, Operator, Label, Offset, Text}
use Rattle.alpha_operands.specs.declared.piece.Piece.TheVariants.{Displacement, Immediate, Literal, Hint, Distance}
use Rattle.alpha_operands.specs.declared.piece.Piece.TheVariants.{Whole, Zeroed, Align, Level, Pal, Nothing, Byte, Word}
use Rattle.alpha_operands.specs.declared.piece.Piece.TheVariants.{Long, Quad}
use Rattle.alpha_operands.specs.declared.shape.Shape.{Shape}
use Rattle.alpha_operands.specs.declared.shape.Shape.TheVariants as shapes

abbrev pub Pattern : Type 0
Pattern = List Piece

-- behind each of the fronts each of the patterns
abbrev pub then : List Pattern → List Pattern → List Pattern
then fronts ps = flat_map (λ front. map (λ p. front ++ p) ps) fronts

-- behind one front each of the patterns
abbrev pub before : Pattern → List Pattern → List Pattern
before front ps = map (λ p. front ++ p) ps

-- one pattern alone
abbrev pub only : Pattern → List Pattern
only p = p ∷ []

-- a number with a minus or without
abbrev pub signed : Piece → List Pattern
signed number = (number ∷ []) ∷ (Minus ∷ number ∷ []) ∷ []

-- a label with an offset or without
abbrev pub expr : List Pattern
expr = (Label ∷ []) ∷ (Label ∷ Plus ∷ Offset ∷ []) ∷ (Label ∷ Less ∷ Offset ∷ []) ∷ []

abbrev pub base : List Pattern
base = only (Open ∷ Rb ∷ Close ∷ [])

-- a number, or half of an address
abbrev pub displacement : List Pattern
displacement = signed Displacement ++ before (Operator ∷ Open ∷ []) (then expr (only (Close ∷ [])))

-- a distance from this instruction, or a label
abbrev pub target : List Pattern
target = (Dot ∷ Plus ∷ Distance ∷ []) ∷ (Dot ∷ Minus ∷ Distance ∷ []) ∷ expr

abbrev pub jump : List Pattern
jump = before (Ra ∷ Comma ∷ []) (then base ((Comma ∷ Hint ∷ []) ∷ [] ∷ []))

-- one value or more, with commas between
abbrev pub listed : List Pattern → List Pattern
listed values = values ++ then values (only (Again ∷ []))

unfoldable pub patterns : Shape → List Pattern
patterns shapes.Memory = before (Ra ∷ Comma ∷ []) (then displacement base ++ displacement ++ base)
patterns shapes.Branch = before (Ra ∷ Comma ∷ []) target
patterns shapes.Call = before (Ra ∷ Comma ∷ []) target ++ target
patterns shapes.Operate = (Ra ∷ Comma ∷ Rb ∷ Comma ∷ Rc ∷ []) ∷ (Ra ∷ Comma ∷ Literal ∷ Comma ∷ Rc ∷ []) ∷ []
patterns shapes.Unary = (Rb ∷ Comma ∷ Rc ∷ []) ∷ (Literal ∷ Comma ∷ Rc ∷ []) ∷ []
patterns shapes.Pair = only (Rb ∷ Comma ∷ Rc ∷ [])
patterns shapes.Single = only (Rc ∷ [])
patterns shapes.Jump = jump
patterns shapes.Return = jump ++ only []
patterns shapes.Alone = only []
patterns shapes.Prefetch = before (Nothing ∷ []) base ++ base
patterns shapes.CallPal = only (Pal ∷ [])
patterns shapes.Move = (Rb ∷ Comma ∷ Rc ∷ []) ∷ then (signed Immediate) (only (Comma ∷ Rc ∷ []))
patterns shapes.Field = only (Whole ∷ [])
patterns shapes.Entry = (Whole ∷ []) ∷ expr
patterns shapes.Level = only (Level ∷ [])
patterns shapes.Zeroed = only (Zeroed ∷ [])
patterns shapes.Align = only (Align ∷ [])
patterns shapes.Bytes = listed (signed Byte)
patterns shapes.Words = listed (signed Word)
patterns shapes.Longs = listed (signed Long)
patterns shapes.Quads = listed (signed Quad ++ expr)
patterns shapes.Text = only (Text ∷ [])
