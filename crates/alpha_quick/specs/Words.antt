-- The words of operands, each at the front of what is left of a line.
use Rattle.std.specs.Prelude.{◌≡◌, ◌⊎◌, ℕ, ℤ, pos, List, true, Some}
use Rattle.alpha_token.specs.Bytes.{is_label}
use Rattle.alpha_token.specs.declared.token.TokenKind.{TokenKind}
use Rattle.alpha_token.specs.declared.token.TokenKind.TheVariants as kinds
use Rattle.alpha_token.specs.Numeral.{number_value}
use Rattle.alpha_token.specs.Tokens.{End, Next, tokens}
use Rattle.alpha_operands.specs.declared.names.Half.{Half}
use Rattle.alpha_table.specs.declared.form.Src.{Src}
use Rattle.alpha_table.specs.declared.form.Src.TheVariants.{Reg, Lit}
use Rattle.alpha_operands.specs.declared.number.Number.TheVariants as numbers
use Rattle.alpha_operands.specs.declared.number.Sign.{Sign}
use Rattle.alpha_operands.specs.declared.number.Sign.TheVariants.{Plus, Minus}
use Rattle.alpha_operands.specs.Names.{register_of, operator_of}
use Rattle.alpha_operands.specs.declared.number.Number.{Number}
use Rattle.alpha_operands.specs.declared.piece.Piece.{Piece}
use Rattle.alpha_operands.specs.declared.piece.Piece.TheVariants as pieces
use Rattle.alpha_operands.specs.Ranges.{number_of, offset_of}

-- a token stands at the front of a line, and this behind it
abbrev pub HasToken : List ℕ → TokenKind → List ℕ → List ℕ → Type 0
HasToken line kind text rest = tokens line ≡ Next (record { kind = kind; text = text; rest = rest }) (tokens rest)

abbrev pub HasMark : List ℕ → TokenKind → List ℕ → Type 0
HasMark line kind rest = (text : List ℕ) × HasToken line kind text rest

-- a comma, and behind it and any blanks this
abbrev pub HasComma : List ℕ → List ℕ → Type 0
HasComma line rest =
    (text : List ℕ) × (after : List ℕ)
    × (tokens line ≡ Next (record { kind = kinds.Comma; text = text; rest = after }) (tokens rest))

abbrev pub HasRegister : List ℕ → ℕ → List ℕ → Type 0
HasRegister line r rest = (text : List ℕ) × (register_of text ≡ Some r) × HasToken line kinds.Register text rest

abbrev pub HasNumber : List ℕ → ℕ → List ℕ → Type 0
HasNumber line n rest = (text : List ℕ) × (number_value text ≡ n) × HasToken line kinds.Number text rest

abbrev pub HasLabel : List ℕ → List ℕ → List ℕ → Type 0
HasLabel line label rest = (is_label label ≡ true) × HasToken line kinds.Name label rest

-- half of an address, and a parenthesis
abbrev pub HasOpened : List ℕ → Half → List ℕ → Type 0
HasOpened line half rest =
    (text : List ℕ) × (paren : List ℕ) × (operator_of text ≡ Some half) × HasToken line kinds.Operator text paren
    × HasMark paren kinds.Open rest

-- the line ends here, or its comment begins
abbrev pub HasEnd : List ℕ → Type 0
HasEnd line = (left : ℕ) × (tokens line ≡ End left)

-- a number, behind a minus or not
abbrev pub HasSigned : List ℕ → Sign → ℕ → List ℕ → Type 0
HasSigned line Plus n rest = HasNumber line n rest
HasSigned line Minus n rest = (digits : List ℕ) × HasMark line kinds.Minus digits × HasNumber digits n rest

-- a number of a piece, with its sign
abbrev pub HasValue : Piece → List ℕ → Number → List ℕ → Type 0
HasValue piece line v rest = (sign : Sign) × (n : ℕ) × HasSigned line sign n rest × (number_of piece sign n ≡ Some v)

-- a register and a comma
abbrev pub HasFirst : List ℕ → ℕ → List ℕ → Type 0
HasFirst line r rest = (after : List ℕ) × HasRegister line r after × HasComma after rest

-- a register between parentheses
abbrev pub HasBase : List ℕ → ℕ → List ℕ → Type 0
HasBase line r rest =
    (inner : List ℕ) × (close : List ℕ) × HasMark line kinds.Open inner × HasRegister inner r close
    × HasMark close kinds.Close rest

-- the mark of a sign
abbrev pub mark_of : Sign → TokenKind
mark_of Plus = kinds.Plus
mark_of Minus = kinds.Minus

-- the offset of a label with this sign
abbrev pub HasOffset : Sign → List ℕ → ℤ → List ℕ → Type 0
HasOffset sign digits offset rest = (n : ℕ) × HasNumber digits n rest × (offset_of sign n ≡ Some offset)

-- a label, with an offset or without
abbrev pub HasExpr : List ℕ → List ℕ → ℤ → List ℕ → Type 0
HasExpr line label offset rest =
    (HasLabel line label rest × (offset ≡ pos 0))
    ⊎ ((sign : Sign) × (after : List ℕ) × (digits : List ℕ) × HasLabel line label after
    × HasMark after (mark_of sign) digits × HasOffset sign digits offset rest)

-- half of the address of a label
abbrev pub HasAddress : List ℕ → Half → List ℕ → ℤ → List ℕ → Type 0
HasAddress line half label offset rest =
    (inner : List ℕ) × (close : List ℕ) × HasOpened line half inner × HasExpr inner label offset close
    × HasMark close kinds.Close rest

-- a base, to the end
abbrev pub HasLastBase : List ℕ → ℕ → Type 0
HasLastBase line r = (rest : List ℕ) × HasBase line r rest × HasEnd rest

-- such a base, or none
abbrev pub HasTail : List ℕ → ℕ → Type 0
HasTail line r = HasLastBase line r ⊎ ((r ≡ 31) × HasEnd line)

-- the displacement in words of a distance with this sign, to the end
abbrev pub HasWords : Sign → List ℕ → ℤ → Type 0
HasWords sign digits words =
    (n : ℕ) × (rest : List ℕ) × HasNumber digits n rest × HasEnd rest
    × (number_of pieces.Distance sign n ≡ Some (numbers.Words words))

-- the same of a distance from this instruction
abbrev pub HasDistance : List ℕ → ℤ → Type 0
HasDistance line words =
    (sign : Sign) × (after : List ℕ) × (digits : List ℕ) × HasMark line kinds.Dot after
    × HasMark after (mark_of sign) digits × HasWords sign digits words

-- a register or a literal, and a comma
abbrev pub HasSource : List ℕ → Src → List ℕ → Type 0
HasSource line (Reg r) rest = HasFirst line r rest
HasSource line (Lit v) rest =
    (n : ℕ) × (after : List ℕ) × (number_of pieces.Literal Plus n ≡ Some (numbers.Literal v)) × HasNumber line n after
    × HasComma after rest

-- a register, to the end
abbrev pub HasLast : List ℕ → ℕ → Type 0
HasLast line r = (rest : List ℕ) × HasRegister line r rest × HasEnd rest

-- a register and the destination, to the end
abbrev pub HasPair : List ℕ → ℕ → ℕ → Type 0
HasPair line rb rc = (after : List ℕ) × HasFirst line rb after × HasLast after rc

-- a source and the destination, to the end
abbrev pub HasUnary : List ℕ → Src → ℕ → Type 0
HasUnary line src rc = (after : List ℕ) × HasSource line src after × HasLast after rc

-- two sources and the destination, to the end
abbrev pub HasBinary : List ℕ → ℕ → Src → ℕ → Type 0
HasBinary line ra src rc = (after : List ℕ) × HasFirst line ra after × HasUnary after src rc

-- the hint of a jump behind a comma, to the end
abbrev pub HasWrittenHint : List ℕ → ℕ → Type 0
HasWrittenHint line hint =
    (n : ℕ) × (digits : List ℕ) × (rest : List ℕ) × HasComma line digits × HasNumber digits n rest
    × (number_of pieces.Hint Plus n ≡ Some (numbers.Hint hint)) × HasEnd rest

-- such a hint, or none
abbrev pub HasHint : List ℕ → ℕ → Type 0
HasHint line hint = HasWrittenHint line hint ⊎ ((hint ≡ 0) × HasEnd line)

-- the registers of a jump and its hint, to the end
abbrev pub HasJump : List ℕ → ℕ → ℕ → ℕ → Type 0
HasJump line ra rb hint =
    (inner : List ℕ) × (after : List ℕ) × HasFirst line ra inner × HasBase inner rb after × HasHint after hint

-- a label with its offset, to the end
abbrev pub HasTarget : List ℕ → List ℕ → ℤ → Type 0
HasTarget line label offset = (rest : List ℕ) × HasExpr line label offset rest × HasEnd rest
