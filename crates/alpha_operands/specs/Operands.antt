-- The operands of a statement, filled in token by token.
use Rattle.std.specs.Prelude.{◌≡◌, ℕ, ℤ, pos, List, ◌-◌, Option, None, Some, Result, Ok, Err, length, take, drop}
use Rattle.std.specs.Prelude.{if◌then◌else◌}
use Rattle.std.specs.Option.{option_map}
use Rattle.alpha_token.specs.Bytes.{is_label}
use Rattle.alpha_token.specs.Numeral.{number_value}
use Rattle.alpha_token.specs.Tokens.{Lexeme}
use Rattle.alpha_operands.specs.declared.names.Half.{Half}
use Rattle.alpha_operands.specs.declared.number.Number.{Number}
use Rattle.alpha_operands.specs.declared.number.Sign.{Sign}
use Rattle.alpha_operands.specs.declared.piece.Piece.{Piece}
use Rattle.alpha_operands.specs.declared.piece.Piece.TheVariants.{Ra, Rb, Rc, Comma, Again, Open, Close, Minus, Plus}
use Rattle.alpha_operands.specs.declared.piece.Piece.TheVariants.{Less, Dot, Operator, Label, Offset, Text}
use Rattle.alpha_operands.specs.declared.operands.LineFaultKind.{LineFaultKind}
use Rattle.alpha_operands.specs.declared.operands.LineFaultKind.TheVariants.{UnknownName, BadOperands, OutOfRange}
use Rattle.alpha_operands.specs.declared.operands.Operands.{Operands}
use Rattle.alpha_operands.specs.Names.{register_of, operator_of}
use Rattle.alpha_operands.specs.Ranges.{number_of, offset_of}

-- the operands without where they lie in memory
pub record Slots : Type 0 where
  pub ra : Option ℕ
  pub rb : Option ℕ
  pub rc : Option ℕ
  pub number : Option Number
  pub half : Option Half
  pub label : Option (List ℕ)
  pub offset : ℤ
  pub text : Option (List ℕ)
  pub left : ℕ

abbrev pub slots : Operands → Slots
slots o = record {
  ra = o.ra;
  rb = o.rb;
  rc = o.rc;
  number = o.number;
  half = o.half;
  label = option_map (λ s. s.now) o.label;
  offset = o.offset;
  text = option_map (λ s. s.now) o.text;
  left = o.left;
}

-- what a function returned, seen without where it lies in memory, is what the definition gives
abbrev pub Gives : {X Y E : Type 0} → (X → Y) → Result X E → Result Y E → Type 0
Gives view (Ok x) given = given ≡ Ok (view x)
Gives view (Err e) given = given ≡ Err e

-- no operands yet
abbrev pub nothing : Slots
nothing = record {
  ra = None;
  rb = None;
  rc = None;
  number = None;
  half = None;
  label = None;
  offset = pos 0;
  text = None;
  left = 0;
}

-- what stands between the quotes of a string
abbrev pub between_quotes : List ℕ → List ℕ
between_quotes text = take (length text - 2) (drop 1 text)

-- what is there, with a value, or what is wrong where there is no value
abbrev pub with_value : {A : Type 0} → Option A → LineFaultKind → (A → Slots) → Result Slots LineFaultKind
with_value None why fill = Err why
with_value (Some x) why fill = Ok (fill x)

-- the operands with the value of a token at its piece, which it spells by its form
unfoldable pub filled : Piece → Lexeme → Sign → Slots → Result Slots LineFaultKind
filled Ra t sign o = with_value (register_of t.text) UnknownName (λ r. record o { ra = Some r; left = length t.rest })
filled Rb t sign o = with_value (register_of t.text) UnknownName (λ r. record o { rb = Some r; left = length t.rest })
filled Rc t sign o = with_value (register_of t.text) UnknownName (λ r. record o { rc = Some r; left = length t.rest })
filled Operator t sign o =
    with_value (operator_of t.text) UnknownName (λ half. record o { half = Some half; left = length t.rest })
filled Label t sign o =
    if is_label t.text then Ok (record o { label = Some t.text; left = length t.rest }) else Err BadOperands
filled Offset t sign o =
    with_value (offset_of sign (number_value t.text)) OutOfRange (λ n. record o { offset = n; left = length t.rest })
filled Text t sign o = Ok (record o { text = Some (between_quotes t.text); left = length t.rest })
filled Comma t sign o = Ok (record o { left = length t.rest })
filled Again t sign o = Ok (record o { left = length t.rest })
filled Open t sign o = Ok (record o { left = length t.rest })
filled Close t sign o = Ok (record o { left = length t.rest })
filled Minus t sign o = Ok (record o { left = length t.rest })
filled Plus t sign o = Ok (record o { left = length t.rest })
filled Less t sign o = Ok (record o { left = length t.rest })
filled Dot t sign o = Ok (record o { left = length t.rest })
filled p t sign o =
    with_value (number_of p sign (number_value t.text)) OutOfRange
    (λ n. record o { number = Some n; left = length t.rest })
