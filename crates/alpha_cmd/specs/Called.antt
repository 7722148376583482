-- The words of a call, of all that stands on the command line.
use Rattle.std.specs.Prelude.{ℕ, List, drop, map, String, string_bytes}
use Rattle.std.specs.Global.{Global}

-- those behind the program's name
abbrev pub words_in : List (String Global) → List (List ℕ)
words_in arguments = map (λ word. string_bytes word) (drop 1 arguments)
