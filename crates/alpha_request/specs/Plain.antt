-- Plain words: the name of a command, and that of a file which can't be taken for an option.
use Rattle.std.specs.Prelude.{◌≢◌, ℕ, List, [], ◌∷◌, false}
use Rattle.alpha_words.specs.declared.Completion.TheVariants.{Wrap}
use Rattle.alpha_request.specs.declared.options.RunOptions.{RunOptions}

-- a name that doesn't begin with a hyphen
abbrev pub IsPlain : List ℕ → Type 0
IsPlain [] = Unit {0}
IsPlain (x ∷ xs) = x ≢ 45

-- how a program is run without options
abbrev pub defaults : RunOptions
defaults = record { complete = Wrap; steps = 100000000; watch = false }
