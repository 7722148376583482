-- The first value of a list, where it is a number or a label and nothing else stands before its comma.
use Rattle.std.proofs.Common.{◌≡◌, ℕ, pos, List, [], ◌∷◌, true, Option, None, Some, length, refl, inl, inr, arith}
use Rattle.std.specs.Option.{option_and_then}
use Rattle.alpha_token.specs.Bytes.{is_label}
use Rattle.alpha_token.specs.Numeral.{number_value}
use Rattle.alpha_token.specs.declared.token.TokenKind.TheVariants as kinds
use Rattle.alpha_token.specs.Tokens.{Lexeme, Next, token_at, tokens}
use Rattle.alpha_operands.specs.declared.number.Number.{Number}
use Rattle.alpha_operands.specs.declared.number.Number.TheVariants as numbers
use Rattle.alpha_operands.specs.declared.number.Sign.{Sign}
use Rattle.alpha_operands.specs.declared.number.Sign.TheVariants as signs
use Rattle.alpha_operands.specs.declared.shape.Shape.{Shape}
use Rattle.alpha_operands.specs.declared.shape.Shape.TheVariants as shapes
use Rattle.alpha_operands.specs.Ranges.{number_of}
use Rattle.alpha_operands.specs.Shapes.{patterns}
use Rattle.alpha_operands.specs.Operands.{filled}
use Rattle.alpha_operands.specs.Values.{number, label, list_shape, first_value, next_of, number_piece, HasNumber}
use Rattle.alpha_operands.specs.Values.{HasLabel, IsPast}

pub comma-tokens : (s : List ℕ)
    → tokens (44 ∷ s) ≡ Next (record { kind = kinds.Comma; text = 44 ∷ []; rest = s }) (tokens s)
unfolding tokens token_at
comma-tokens s = refl

-- the value of a number in a list of a shape, where it has one
abbrev pub number_in : Shape → Sign → ℕ → Option Number
number_in shape sign n = option_and_then (λ piece. number_of piece sign n) (number_piece shape)

pub first-number : (shape : Shape) (sign : Sign) (t : Lexeme) (v : ℕ) (list rest : List ℕ) → HasNumber list sign t
    → number_in shape sign (number_value t.text) ≡ Some (numbers.Value v) → IsPast t.rest rest →
    first_value shape list ≡ Some (number v, rest)
unfolding first_value patterns filled
first-number shapes.Bytes signs.Plus t v list rest (k, e) is (inl (p, z)) = rw (e, k, is, p, z) refl
first-number shapes.Bytes signs.Plus t v list rest (k, e) is (inr p) = rw (e, k, is, p) refl
first-number shapes.Bytes signs.Minus t v list rest (m, (l, f), (k, e)) is (inl (p, z)) = rw (f, l, e, k, is, p, z) refl
first-number shapes.Bytes signs.Minus t v list rest (m, (l, f), (k, e)) is (inr p) = rw (f, l, e, k, is, p) refl
first-number shapes.Words signs.Plus t v list rest (k, e) is (inl (p, z)) = rw (e, k, is, p, z) refl
first-number shapes.Words signs.Plus t v list rest (k, e) is (inr p) = rw (e, k, is, p) refl
first-number shapes.Words signs.Minus t v list rest (m, (l, f), (k, e)) is (inl (p, z)) = rw (f, l, e, k, is, p, z) refl
first-number shapes.Words signs.Minus t v list rest (m, (l, f), (k, e)) is (inr p) = rw (f, l, e, k, is, p) refl
first-number shapes.Longs signs.Plus t v list rest (k, e) is (inl (p, z)) = rw (e, k, is, p, z) refl
first-number shapes.Longs signs.Plus t v list rest (k, e) is (inr p) = rw (e, k, is, p) refl
first-number shapes.Longs signs.Minus t v list rest (m, (l, f), (k, e)) is (inl (p, z)) = rw (f, l, e, k, is, p, z) refl
first-number shapes.Longs signs.Minus t v list rest (m, (l, f), (k, e)) is (inr p) = rw (f, l, e, k, is, p) refl
first-number shapes.Quads signs.Plus t v list rest (k, e) is (inl (p, z)) = rw (e, k, is, p, z) refl
first-number shapes.Quads signs.Plus t v list rest (k, e) is (inr p) = rw (e, k, is, p) refl
first-number shapes.Quads signs.Minus t v list rest (m, (l, f), (k, e)) is (inl (p, z)) = rw (f, l, e, k, is, p, z) refl
first-number shapes.Quads signs.Minus t v list rest (m, (l, f), (k, e)) is (inr p) = rw (f, l, e, k, is, p) refl
first-number shape sign t v list rest has is past = cc

pub first-label : (t : Lexeme) (list rest : List ℕ) → HasLabel list t → is_label t.text ≡ true → IsPast t.rest rest
    → first_value shapes.Quads list ≡ Some (label t.text (pos 0), rest)
unfolding first_value patterns filled
first-label t list rest (k, e) is (inl (p, z)) = rw (e, k, is, p, z) refl
first-label t list rest (k, e) is (inr p) = rw (e, k, is, p) refl

none-first : (shape : Shape) → first_value shape [] ≡ None
unfolding first_value patterns tokens
none-first shapes.Bytes = refl
none-first shape = refl

none-next : (shape : Option Shape) → option_and_then (λ s. first_value s []) shape ≡ None
none-next None = refl
none-next (Some shape) = none-first shape

-- an empty list has no first value
pub none-in-empty : (bytes : ℕ) (list : List ℕ) → length list ≡ 0 → next_of bytes list ≡ None
none-in-empty bytes [] h = none-next (list_shape bytes)
none-in-empty bytes (b ∷ list) h = absurd (omega arith)
