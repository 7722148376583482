-- What the value of a token changes among the operands.
use Rattle.std.proofs.Common.{◌≡◌, ◌⊎◌, Bool, true, false, cond, Option, Some, None, Result, Ok, Err, length, refl, sym}
use Rattle.std.proofs.Common.{inl, inr}
use Rattle.alpha_token.specs.Bytes.{is_label}
use Rattle.alpha_token.specs.Numeral.{number_value}
use Rattle.alpha_token.specs.Tokens.{Lexeme}
use Rattle.alpha_operands.specs.declared.piece.Piece.{Piece}
use Rattle.alpha_operands.specs.declared.piece.Piece.TheVariants as pieces
use Rattle.alpha_operands.specs.declared.number.Sign.{Sign}
use Rattle.alpha_operands.specs.declared.operands.LineFaultKind.{LineFaultKind}
use Rattle.alpha_operands.specs.declared.operands.LineFaultKind.TheVariants.{UnknownName, BadOperands, OutOfRange}
use Rattle.alpha_operands.specs.Names.{register_of, operator_of}
use Rattle.alpha_operands.specs.Ranges.{number_of, offset_of}
use Rattle.alpha_operands.specs.Operands.{Slots, between_quotes, with_value, filled}

pub a_value : {A : Type 0} (x : Option A) (kind : LineFaultKind) (f : A → Slots) (r : Slots)
    → with_value x kind f ≡ Ok r → (v : A) × (x ≡ Some v) × (f v ≡ r)
a_value None kind f r h = cc
a_value (Some v) kind f r h = (v, refl, cc)

pub cond-ok : (b : Bool) (o r : Slots) → cond b (Ok o) (Err BadOperands) ≡ Ok r → (b ≡ true) × (o ≡ r)
cond-ok true o r h = (refl, cc)
cond-ok false o r h = cc

pub ok-injective : (o r : Slots) → (let x : Result Slots LineFaultKind = Ok o in x) ≡ Ok r → o ≡ r
ok-injective o r h = cc

-- the bytes behind the token are those left; a string's text is what stands between its quotes, a number is that of its
-- piece, and what a piece doesn't name stays
abbrev pub Changes : Piece → Lexeme → Sign → Slots → Slots → Type 0
Changes p t sign o r =
    (r.left ≡ length t.rest)
    × ((r.text ≡ o.text) ⊎ ((p ≡ pieces.Text) × (r.text ≡ Some (between_quotes t.text))))
    × ((r.number ≡ o.number) ⊎ (r.number ≡ number_of p sign (number_value t.text)))

pub filled-changes : (p : Piece) (t : Lexeme) (sign : Sign) (o r : Slots) → filled p t sign o ≡ Ok r
    → Changes p t sign o r
unfolding filled
filled-changes pieces.Ra t sign o r h =
    let (v, e, k) = a_value (register_of t.text) UnknownName _ r h in
    rw (← k) (refl, inl refl, inl refl)
filled-changes pieces.Rb t sign o r h =
    let (v, e, k) = a_value (register_of t.text) UnknownName _ r h in
    rw (← k) (refl, inl refl, inl refl)
filled-changes pieces.Rc t sign o r h =
    let (v, e, k) = a_value (register_of t.text) UnknownName _ r h in
    rw (← k) (refl, inl refl, inl refl)
filled-changes pieces.Operator t sign o r h =
    let (v, e, k) = a_value (operator_of t.text) UnknownName _ r h in
    rw (← k) (refl, inl refl, inl refl)
filled-changes pieces.Label t sign o r h =
    let (b, k) = cond-ok (is_label t.text) _ r h in
    rw (← k) (refl, inl refl, inl refl)
filled-changes pieces.Offset t sign o r h =
    let (v, e, k) = a_value (offset_of sign (number_value t.text)) OutOfRange _ r h in
    rw (← k) (refl, inl refl, inl refl)
filled-changes pieces.Text t sign o r h = rw (← ok-injective _ r h) (refl, inr (refl, refl), inl refl)
filled-changes pieces.Comma t sign o r h = rw (← ok-injective _ r h) (refl, inl refl, inl refl)
filled-changes pieces.Again t sign o r h = rw (← ok-injective _ r h) (refl, inl refl, inl refl)
filled-changes pieces.Open t sign o r h = rw (← ok-injective _ r h) (refl, inl refl, inl refl)
filled-changes pieces.Close t sign o r h = rw (← ok-injective _ r h) (refl, inl refl, inl refl)
filled-changes pieces.Minus t sign o r h = rw (← ok-injective _ r h) (refl, inl refl, inl refl)
filled-changes pieces.Plus t sign o r h = rw (← ok-injective _ r h) (refl, inl refl, inl refl)
filled-changes pieces.Less t sign o r h = rw (← ok-injective _ r h) (refl, inl refl, inl refl)
filled-changes pieces.Dot t sign o r h = rw (← ok-injective _ r h) (refl, inl refl, inl refl)
filled-changes p t sign o r h =
    let (v, e, k) = a_value (number_of p sign (number_value t.text)) OutOfRange _ r h in
    rw (← k) (refl, inl refl, inr (sym e))
