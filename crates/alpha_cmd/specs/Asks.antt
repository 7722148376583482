-- What a list of words asks for.
use Rattle.std.specs.Prelude.{◌≡◌, ℕ, List, Some, None}
use Rattle.alpha_request.specs.Command.{Command}
use Rattle.alpha_request.specs.Asked.{asked}

-- words that ask for a command
abbrev pub AsksFor : List (List ℕ) → Command → Type 0
AsksFor words command = asked words ≡ Some command

-- words that ask for nothing
abbrev pub AsksNothing : List (List ℕ) → Type 0
AsksNothing words = asked words ≡ None
