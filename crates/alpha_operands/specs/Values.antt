-- The values of a list.
use Rattle.std.specs.Prelude.{◌≡◌, ◌⊎◌, ◌≤◌, ◌<◌, ◌-◌, ◌*◌, ◌^◌, ℕ, ℤ, List, [], ◌∷◌, ◌++◌, length, Bool, Option, None}
use Rattle.std.specs.Prelude.{Some, Result, Ok, Err, ◌==◌, ◌&&◌, if◌then◌else◌}
use Rattle.std.specs.Option.{option_map, option_and_then}
use Rattle.alpha_token.specs.declared.token.TokenKind.{TokenKind}
use Rattle.alpha_token.specs.declared.token.TokenKind.TheVariants as kinds
use Rattle.alpha_token.specs.Tokens.{Lexeme, Tokens, End, Bad, Next, tokens}
use Rattle.alpha_operands.specs.declared.piece.Piece.{Piece}
use Rattle.alpha_operands.specs.declared.piece.Piece.TheVariants as pieces
use Rattle.alpha_operands.specs.declared.number.Number.{Number}
use Rattle.alpha_operands.specs.declared.number.Number.TheVariants as numbers
use Rattle.alpha_operands.specs.declared.number.Sign.{Sign}
use Rattle.alpha_operands.specs.declared.number.Sign.TheVariants as signs
use Rattle.alpha_operands.specs.declared.shape.Shape.{Shape}
use Rattle.alpha_operands.specs.declared.shape.Shape.TheVariants as shapes
use Rattle.alpha_operands.specs.declared.operands.LineFaultKind.{LineFaultKind}
use Rattle.alpha_operands.specs.declared.values.ListValue.{ListValue}
use Rattle.alpha_operands.specs.declared.values.ListValue.TheVariants as listed
use Rattle.alpha_operands.specs.Shapes.{Pattern, patterns}
use Rattle.alpha_operands.specs.Operands.{Slots, nothing, filled}
use Rattle.alpha_operands.specs.Walk.{is_whole, piece_behind, front_after, sign_after, operands}

-- a value of a list: a number modulo 2^64, or a label with its offset
pub data Listed : Type 0 where
  number : (value : ℕ) → Listed
  label : (name : List ℕ) (offset : ℤ) → Listed

abbrev pub view : ListValue → Listed
view (listed.Number n) = number n
view (listed.Label e) = label e.label.now e.offset

-- the shape of a list of values of a size
abbrev pub list_shape : ℕ → Option Shape
list_shape bytes =
    if bytes == 1 then Some shapes.Bytes else if bytes == 2 then Some shapes.Words else if bytes == 4
    then Some shapes.Longs
    else if bytes == 8 then Some shapes.Quads else None

-- the operands of one value, and the list behind its comma; the list is at its end where none is there
abbrev pub ended : Bool → Slots → Option (Slots × List ℕ)
ended whole o = if whole then Some (o, []) else None

abbrev pub then_on : Result Slots LineFaultKind → (Slots → Option (Slots × List ℕ)) → Option (Slots × List ℕ)
then_on (Err why) more = None
then_on (Ok o) more = more o

abbrev pub up_to_comma : Lexeme → Sign → Slots → Option Piece → (Piece → Slots → Option (Slots × List ℕ))
    → Option (Slots × List ℕ)
up_to_comma t sign o None more = None
up_to_comma t sign o (Some pieces.Again) more = Some (o, t.rest)
up_to_comma t sign o (Some p) more = then_on (filled p t sign o) (more p)

abbrev pub first_operands : List Pattern → Pattern → Sign → Tokens → Slots → Option (Slots × List ℕ)
first_operands all front sign (End left) o = ended (left == 0 && is_whole all front) o
first_operands all front sign (Bad left) o = None
first_operands all front sign (Next t ts) o =
    up_to_comma t sign o (piece_behind all front t.kind)
    (λ p filled. first_operands all (front_after front p) (sign_after p) ts filled)

-- the value that the operands of one are
abbrev pub value_in : Option Number → ℤ → Option (List ℕ) → Option Listed
value_in n offset (Some name) = Some (label name offset)
value_in (Some (numbers.Value n)) offset None = Some (number n)
value_in _ offset None = None

abbrev pub value_of : Slots → Option Listed
value_of o = value_in o.number o.offset o.label

-- the first value of a list, and the list behind its comma
unfoldable pub first_value : Shape → List ℕ → Option (Listed × List ℕ)
first_value shape list =
    option_and_then (λ found. option_map (λ v. (v, found.1)) (value_of found.0))
    (first_operands (patterns shape) [] signs.Plus (tokens list) nothing)

-- the piece of the numbers of a list; other shapes have none
abbrev pub number_piece : Shape → Option Piece
number_piece shapes.Bytes = Some pieces.Byte
number_piece shapes.Words = Some pieces.Word
number_piece shapes.Longs = Some pieces.Long
number_piece shapes.Quads = Some pieces.Quad
number_piece _ = None

-- a token of a form stands at the front of a list
abbrev pub HasToken : List ℕ → TokenKind → Lexeme → Type 0
HasToken list kind t = (t.kind ≡ kind) × (tokens list ≡ Next t (tokens t.rest))

-- a list begins with a number with this sign
abbrev pub HasNumber : List ℕ → Sign → Lexeme → Type 0
HasNumber list signs.Plus t = HasToken list kinds.Number t
HasNumber list signs.Minus t = (minus : Lexeme) × HasToken list kinds.Minus minus × HasToken minus.rest kinds.Number t

abbrev pub HasLabel : List ℕ → Lexeme → Type 0
HasLabel list t = HasToken list kinds.Name t

-- the list behind a value: it ends there, or a comma stands there
abbrev pub IsPast : List ℕ → List ℕ → Type 0
IsPast behind rest =
    ((tokens behind ≡ End 0) × (rest ≡ []))
    ⊎ (tokens behind ≡ Next (record { kind = kinds.Comma; text = 44 ∷ []; rest = rest }) (tokens rest))

-- the first value of a list of values of so many bytes each, and the list behind its comma
abbrev pub next_of : ℕ → List ℕ → Option (Listed × List ℕ)
next_of bytes list = option_and_then (λ shape. first_value shape list) (list_shape bytes)

-- A list that is read to its end: it gives these values one behind the other, and nothing is left.
abbrev pub AreValuesOf : ℕ → List ℕ → List Listed → Type 0
AreValuesOf bytes list [] = list ≡ []
AreValuesOf bytes list (v ∷ vs) = (rest : List ℕ) × (next_of bytes list ≡ Some (v, rest)) × AreValuesOf bytes rest vs

-- a whole list: it has a value, and is read to its end
abbrev pub IsWholeList : ℕ → List ℕ → Type 0
IsWholeList bytes list = (v : Listed) × (vs : List Listed) × AreValuesOf bytes list (v ∷ vs)

-- of a line that goes on behind a list its values were read as operands, and what is left is what stands behind them
abbrev pub IsReadAsList : ℕ → List ℕ → List ℕ → Type 0
IsReadAsList bytes list behind =
    (shape : Shape) × (o : Slots) × (list_shape bytes ≡ Some shape)
    × (operands (patterns shape) (tokens (list ++ behind)) ≡ Ok o) × (o.left ≡ length behind)

-- A value that so many bytes hold: a number without a sign, or one below 0 modulo 2^64; a label where there are 8.
abbrev pub IsOfSize : ℕ → Listed → Type 0
IsOfSize bytes (number n) = (n < 2 ^ (8 * bytes)) ⊎ ((2 ^ 64 - 2 ^ (8 * bytes - 1) ≤ n) × (n < 2 ^ 64))
IsOfSize bytes (label name offset) = bytes ≡ 8
