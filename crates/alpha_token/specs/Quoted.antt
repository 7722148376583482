-- What stands between the quotes of a string.
use Rattle.std.specs.Prelude.{◌≡◌, ℕ, List, [], ◌∷◌, ◌++◌, ◌==◌, ◌&&◌, ◌+◌, ◌*◌, Bool, false, not, Option, None, Some}
use Rattle.std.specs.Prelude.{nat_le, drop, if◌then◌else◌}
use Prim.Native.Nat.{zero, suc}
use Rattle.std.specs.Option.{option_map, option_and_then}
use Rattle.std.specs.Char.{is_ascii_hexdigit, digit_value}

-- a printable byte
abbrev pub is_printable : ℕ → Bool
is_printable b = nat_le 32 b && nat_le b 126

-- the byte that a letter stands for behind a backslash
abbrev pub unescape : ℕ → Option ℕ
unescape e =
    if e == 110 then Some 10 else if e == 116 then Some 9 else if e == 92 then Some 92 else if e == 34 then Some 34
    else if e == 48 then Some 0 else None

-- the byte that two hexadecimal digits stand for behind `\x`, and how many bytes follow the backslash
abbrev pub hex_pair : List ℕ → Option (ℕ × ℕ)
hex_pair [] = None
hex_pair (a ∷ []) = None
hex_pair (a ∷ b ∷ s) =
    if is_ascii_hexdigit a && is_ascii_hexdigit b then Some (16 * digit_value a + digit_value b, 3) else None

-- the same for what may follow a backslash: `n`, `t`, `\`, `"`, `0`, or `x` and two hexadecimal digits
abbrev pub escape : List ℕ → Option (ℕ × ℕ)
escape [] = None
escape (e ∷ s) = if e == 120 then hex_pair s else option_map (λ v. (v, 1)) (unescape e)

-- the byte that the text of a string stands for first, and how many bytes of the text follow the first one for it
unfoldable pub byte_at : List ℕ → Option (ℕ × ℕ)
byte_at [] = None
byte_at (b ∷ s) = if b == 92 then escape s else if is_printable b && not (b == 34) then Some (b, 0) else None

-- the same, with the rest of the text
abbrev pub first_byte : List ℕ → Option (ℕ × List ℕ)
first_byte text = option_map (λ v. (v.0, drop (suc v.1) text)) (byte_at text)

-- the closing quote stands at the front
abbrev pub is_closed : List ℕ → Bool
is_closed [] = false
is_closed (b ∷ s) = b == 34

-- how many bytes stand before the closing quote, once `skip` bytes are passed over
abbrev pub quoted_len : ℕ → List ℕ → Option ℕ
quoted_len skip [] = None
quoted_len (suc skip) (b ∷ s) = option_map suc (quoted_len skip s)
quoted_len zero (b ∷ s) =
    if b == 34 then Some 0 else option_and_then (λ v. option_map suc (quoted_len v.1 s)) (byte_at (b ∷ s))

-- A text that is read to its end: it gives these bytes one behind the other, and nothing is left.
abbrev pub IsTextOf : List ℕ → List ℕ → Type 0
IsTextOf text [] = text ≡ []
IsTextOf text (b ∷ bytes) = (rest : List ℕ) × (first_byte text ≡ Some (b, rest)) × IsTextOf rest bytes

abbrev pub IsText : List ℕ → Type 0
IsText text = (bytes : List ℕ) × IsTextOf text bytes

-- a string: such a text between two quotes
abbrev pub IsString : List ℕ → Type 0
IsString string = (text : List ℕ) × (string ≡ 34 ∷ (text ++ (34 ∷ []))) × IsText text
