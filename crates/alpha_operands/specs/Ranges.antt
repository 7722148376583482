-- The numbers of operands and their ranges.
use Rattle.std.specs.Prelude.{⊤, ◌<◌, ◌≤◌, ℕ, ℤ, pos, neg_ℤ, ◌-ℤ◌, Bool, Option, None, Some, ◌==◌, ◌&&◌, ◌||◌, ◌-◌, ◌/◌}
use Rattle.std.specs.Prelude.{◌%◌, ◌^◌, nat_le, nat_lt, if◌then◌else◌}
use Rattle.std.specs.Option.{option_map}
use Rattle.alpha_words.specs.declared.PalCall.{PalCall}
use Rattle.alpha_table.specs.declared.form.Form.{Form}
use Rattle.alpha_table.specs.declared.form.Form.TheVariants as forms
use Rattle.alpha_table.specs.Row.{IsSigned}
use Rattle.alpha_table.specs.Decoded.{decoded}
use Rattle.alpha_operands.specs.declared.piece.Piece.{Piece}
use Rattle.alpha_operands.specs.declared.piece.Piece.TheVariants as pieces
use Rattle.alpha_operands.specs.declared.number.Sign.{Sign}
use Rattle.alpha_operands.specs.declared.number.Sign.TheVariants.{Plus, Minus}
use Rattle.alpha_operands.specs.declared.number.Number.{Number}
use Rattle.alpha_operands.specs.declared.number.Number.TheVariants.{Displacement, Immediate, Literal, Hint, Words}
use Rattle.alpha_operands.specs.declared.number.Number.TheVariants.{Whole, Zeroed, Align, Level, Call, Nothing, Value}

-- a number with its sign
abbrev pub signed : Sign → ℕ → ℤ
signed Plus n = pos n
signed Minus n = neg_ℤ (pos n)

-- a number up to `most`, or up to `least` behind a minus
abbrev pub in_range : ℕ → ℕ → Sign → ℕ → Bool
in_range most least Plus n = nat_le n most
in_range most least Minus n = nat_le n least

-- the displacement in words of a branch over a distance in bytes from the branch itself
abbrev pub words_of : Sign → ℕ → ℤ
words_of sign distance = signed sign (distance / 4) -ℤ pos 1

-- modulo 2^64
abbrev pub modulo : Sign → ℕ → ℕ
modulo Plus n = n
modulo Minus n = (2 ^ 64 - n) % 2 ^ 64

-- the call of the table with this function
abbrev pub call_of : Option Form → Option PalCall
call_of (Some (forms.Pal call)) = Some call
call_of _ = None

abbrev pub if_in : Bool → Number → Option Number
if_in within n = if within then Some n else None

-- a number at a piece of a pattern, nothing where it is outside the piece's range
unfoldable pub number_of : Piece → Sign → ℕ → Option Number
number_of pieces.Displacement sign n = if_in (in_range 32767 32768 sign n) (Displacement (signed sign n))
number_of pieces.Immediate sign n = if_in (in_range 32767 32768 sign n) (Immediate (signed sign n))
number_of pieces.Literal sign n = if_in (nat_le n 255) (Literal n)
number_of pieces.Hint sign n = if_in (nat_le n 16383) (Hint n)
number_of pieces.Distance sign n = if_in (n % 4 == 0 && in_range 4194304 4194300 sign n) (Words (words_of sign n))
number_of pieces.Whole sign n = if_in (nat_lt n (2 ^ 64)) (Whole n)
number_of pieces.Zeroed sign n = if_in (nat_le n 16777216) (Zeroed n)
number_of pieces.Align sign n = if_in (nat_le n 13) (Align n)
number_of pieces.Level sign n = if_in (n == 1 || n == 2) (Level n)
number_of pieces.Pal sign n = if nat_lt n (2 ^ 26) then option_map Call (call_of (decoded n)) else None
number_of pieces.Nothing sign n = if_in (n == 0) Nothing
number_of pieces.Byte sign n = if_in (in_range (2 ^ 8 - 1) (2 ^ 7) sign n) (Value (modulo sign n))
number_of pieces.Word sign n = if_in (in_range (2 ^ 16 - 1) (2 ^ 15) sign n) (Value (modulo sign n))
number_of pieces.Long sign n = if_in (in_range (2 ^ 32 - 1) (2 ^ 31) sign n) (Value (modulo sign n))
number_of pieces.Quad sign n = if_in (in_range (2 ^ 64 - 1) (2 ^ 63) sign n) (Value (modulo sign n))
number_of _ sign n = None

-- a label's offset
abbrev pub offset_of : Sign → ℕ → Option ℤ
offset_of sign n = if nat_lt n (2 ^ 31) then Some (signed sign n) else None

-- a number of a statement is within its range
abbrev pub IsNumber : Number → Type 0
IsNumber (Hint n) = n < 2 ^ 14
IsNumber (Words n) = IsSigned 20 n
IsNumber (Zeroed n) = n ≤ 2 ^ 24
IsNumber (Align n) = n ≤ 13
IsNumber (Level n) = (1 ≤ n) × (n ≤ 2)
IsNumber _ = ⊤
