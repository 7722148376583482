-- The tokens of a line of source.
use Rattle.std.specs.Prelude.{◌≡◌, ℕ, List, [], ◌∷◌, ◌==◌, ◌&&◌, ◌+◌, ◌<◌, ◌++◌, Option, None, Some, length, take, drop}
use Rattle.std.specs.Prelude.{⊤, if◌then◌else◌}
use Prim.Native.Nat.{zero, suc}
use Rattle.std.specs.List.{prefix_len}
use Rattle.std.specs.Option.{option_map}
use Rattle.std.specs.Char.{is_ascii_alphabetic, is_ascii_alphanumeric, is_ascii_digit}
use Rattle.alpha_token.specs.declared.token.TokenKind.{TokenKind}
use Rattle.alpha_token.specs.declared.token.TokenKind.TheVariants.{Name, Dot, Register, Number, Operator, Text, Comma}
use Rattle.alpha_token.specs.declared.token.TokenKind.TheVariants.{Open, Close, Colon, Plus, Minus}
use Rattle.alpha_token.specs.declared.token.Token.{Token}
use Rattle.alpha_token.specs.declared.token.Step.{Step}
use Rattle.alpha_token.specs.declared.token.Step.TheVariants as steps
use Rattle.alpha_token.specs.Bytes.{is_blank, begins_name, goes_on_name}
use Rattle.alpha_token.specs.Numeral.{number_more}
use Rattle.alpha_token.specs.Quoted.{quoted_len}

-- a token: its kind, its text, and the bytes behind it to the end of the line
pub record Lexeme : Type 0 where
  pub kind : TokenKind
  pub text : List ℕ
  pub rest : List ℕ

-- how many bytes are left of the line where the token begins; its column is the line's length + 1 - this
abbrev pub left_of : Lexeme → ℕ
left_of t = length t.text + length t.rest

-- The tokens of a line to its end or its comment, or to the first byte that begins none: each with the count of
-- bytes that are left of the line there.
pub data Tokens : Type 0 where
  End : (left : ℕ) → Tokens
  Bad : (left : ℕ) → Tokens
  Next : (token : Lexeme) (more : Tokens) → Tokens

-- `.` alone is the address of this instruction
abbrev pub name_kind : ℕ → ℕ → TokenKind
name_kind b more = if b == 46 && more == 0 then Dot else Name

-- a kind that needs a further byte or more
abbrev pub if_any : TokenKind → ℕ → Option (TokenKind × ℕ)
if_any kind more = if more == 0 then None else Some (kind, more)

-- the tokens of one byte
abbrev pub mark : ℕ → Option TokenKind
mark b =
    if b == 44 then Some Comma else if b == 40 then Some Open else if b == 41 then Some Close else if b == 58
    then Some Colon
    else if b == 43 then Some Plus else if b == 45 then Some Minus else None

-- the longest token that the byte b begins before s: its kind, and how many further bytes it has
unfoldable pub token_at : ℕ → List ℕ → Option (TokenKind × ℕ)
token_at b s =
    if begins_name b then (let more = prefix_len goes_on_name s in Some (name_kind b more, more))
    else if is_ascii_digit b then Some (Number, number_more b s)
    else if b == 36 then if_any Register (prefix_len is_ascii_alphanumeric s)
    else if b == 37 then if_any Operator (prefix_len is_ascii_alphabetic s)
    else if b == 34 then option_map (λ n. (Text, suc n)) (quoted_len 0 s)
    else option_map (λ kind. (kind, 0)) (mark b)

abbrev pub put_before : List ℕ → Option (TokenKind × ℕ) → (ℕ → Tokens) → ℕ → List ℕ → Tokens
put_before line None more b s = Bad (length line)
put_before line (Some found) more b s =
    Next (record { kind = found.0; text = b ∷ take found.1 s; rest = drop found.1 s }) (more found.1)

-- the tokens of a line once `skip` bytes are passed over; blanks may stand between tokens, and `#` begins a comment
abbrev pub tokens_after : ℕ → List ℕ → Tokens
tokens_after skip [] = End 0
tokens_after (suc skip) (b ∷ s) = tokens_after skip s
tokens_after zero (b ∷ s) =
    if is_blank b then tokens_after 0 s
    else if b == 35 then End (length (b ∷ s))
    else put_before (b ∷ s) (token_at b s) (λ more. tokens_after more s) b s

unfoldable pub tokens : List ℕ → Tokens
tokens line = tokens_after 0 line

abbrev pub lexeme : Token → Lexeme
lexeme t = record { kind = t.kind; text = t.text.now; rest = t.rest.now }

-- what stands at the front of a line
abbrev pub Reads : List ℕ → Step → Type 0
Reads line (steps.End left) = tokens line ≡ End left
Reads line (steps.Bad left) = tokens line ≡ Bad left
Reads line (steps.Token t) = tokens line ≡ Next (lexeme t) (tokens t.rest.now)

-- a token's text and the bytes behind it are the end of the line, and it has a byte or more
abbrev pub Joins : List ℕ → Step → Type 0
Joins line (steps.End left) = ⊤
Joins line (steps.Bad left) = ⊤
Joins line (steps.Token t) =
    (length t.rest.now < length line) × ((blanks : List ℕ) × (line ≡ blanks ++ (t.text.now ++ t.rest.now)))
