-- What a line of a script says: its words, the numbers among them, and the command that they make.
use Rattle.std.specs.Prelude.{ℕ, Bool, true, false, ◌==◌, ◌&&◌, ◌^◌, nat_le, nat_lt, if◌then◌else◌, List, [], ◌∷◌}
use Rattle.std.specs.Prelude.{length, codes, Option, Some, None}
use Rattle.std.specs.List.{filter, slice_split}
use Rattle.std.specs.Str.{bytes_eq}
use Rattle.alpha_token.specs.declared.token.TokenKind.{TokenKind}
use Rattle.alpha_token.specs.declared.token.TokenKind.TheVariants.{Number}
use Rattle.alpha_token.specs.Bytes.{is_blank}
use Rattle.alpha_token.specs.Numeral.{number_value}
use Rattle.alpha_token.specs.Tokens.{Tokens, End, Bad, Next, tokens}
use Rattle.alpha_debug.specs.declared.command.Command.{Command}
use Rattle.alpha_debug.specs.declared.command.Command.TheVariants.{Nothing, Step, Go, Barrier, Break, Clear, Registers}
use Rattle.alpha_debug.specs.declared.command.Command.TheVariants.{Memory, Listing, Shadow, Log, Quit, Unknown}

-- ---- words

-- a word has a byte or more
abbrev pub has_bytes : List ℕ → Bool
has_bytes word = nat_lt 0 (length word)

-- the words of a line, which blanks part
abbrev pub words : List ℕ → List (List ℕ)
words line = filter has_bytes (slice_split is_blank line)

-- ---- numbers

abbrev pub is_number : TokenKind → Bool
is_number Number = true
is_number kind = false

abbrev pub if_below : ℕ → ℕ → Option ℕ
if_below bound n = if nat_lt n bound then Some n else None

-- a number is one token of the source language, decimal digits or `0x` and hexadecimal digits, with nothing behind it
abbrev pub number_at : Tokens → Option ℕ
number_at (End left) = None
number_at (Bad left) = None
number_at (Next t more) =
    if is_number t.kind && length t.rest == 0 then if_below (2 ^ 64) (number_value t.text) else None

abbrev pub number_in : List ℕ → Option ℕ
number_in word = number_at (tokens word)

-- ---- commands

-- the most steps of a `step`, and of a `go` or a `barrier`
abbrev pub most_steps : ℕ
most_steps = 1000000

-- the most bytes of a `mem`, and words of a `dis`
abbrev pub most_shown : ℕ
most_shown = 256

-- the most bytes of a line that is a command
abbrev pub line_limit : ℕ
line_limit = 1024

abbrev pub is_within : ℕ → ℕ → Bool
is_within most n = nat_le 1 n && nat_le n most

-- a word alone that moves nothing
abbrev pub command_without_step : List ℕ → Command
command_without_step name =
    if bytes_eq name (codes "regs") then Registers
    else if bytes_eq name (codes "shadow") then Shadow
    else if bytes_eq name (codes "log") then Log
    else if bytes_eq name (codes "quit") then Quit
    else Unknown

-- a word alone
abbrev pub command_alone : List ℕ → Command
command_alone name =
    if bytes_eq name (codes "step") then Step 1
    else if bytes_eq name (codes "go") then Go
    else if bytes_eq name (codes "barrier") then Barrier
    else command_without_step name

-- a word and a number
abbrev pub with_number : List ℕ → ℕ → Command
with_number name n =
    if bytes_eq name (codes "step") then (if is_within most_steps n then Step n else Unknown)
    else if bytes_eq name (codes "break") then Break n
    else if bytes_eq name (codes "clear") then Clear n
    else Unknown

-- a word, an address and a count
abbrev pub with_range : List ℕ → ℕ → ℕ → Command
with_range name at count =
    if is_within most_shown count then
    (if bytes_eq name (codes "mem") then Memory at count else if bytes_eq name (codes "dis") then Listing at count
    else Unknown)
    else Unknown

abbrev pub by_number : List ℕ → Option ℕ → Command
by_number name None = Unknown
by_number name (Some n) = with_number name n

abbrev pub by_range : List ℕ → Option ℕ → Option ℕ → Command
by_range name (Some at) (Some count) = with_range name at count
by_range name at count = Unknown

abbrev pub command_in : List (List ℕ) → Command
command_in [] = Nothing
command_in (name ∷ []) = command_alone name
command_in (name ∷ first ∷ []) = by_number name (number_in first)
command_in (name ∷ first ∷ second ∷ []) = by_range name (number_in first) (number_in second)
command_in (name ∷ first ∷ second ∷ third ∷ more) = Unknown

-- what a line says, which has lost its line end
abbrev pub command_of : List ℕ → Command
command_of line = if nat_lt line_limit (length line) then Unknown else command_in (words line)
