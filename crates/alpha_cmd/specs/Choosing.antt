-- The words by which the imprecise machine chooses.
use Rattle.std.specs.Prelude.{ℕ, ◌*◌, List}
use Rattle.alpha_words.specs.Digits.{little_at}
use Rattle.alpha_io.specs.Files.{Files}
use Rattle.alpha_request.specs.Origin.{Origin, seed, file}
use Rattle.alpha_imprecise.specs.Pcg.{pcg_word, seeded}
use Rattle.alpha_cmd.specs.Outcome.{Outcome, Then, Gives}
use Rattle.alpha_cmd.specs.Image.{Reads}
use Rattle.alpha_cmd.specs.ChoicesLimit.{choices_limit}

-- the words that bytes write, eight bytes a word and the lowest byte first; behind the last byte come zeros
abbrev pub listed_word : List ℕ → ℕ → ℕ
listed_word bytes k = little_at 8 (8 * k) bytes

-- the words of the choices: those of a seed, or those that a named file writes
abbrev pub ChoicesOf : Files → Origin → Outcome (ℕ → ℕ) → Type 0
ChoicesOf files (seed n) = Gives (pcg_word (seeded n))
ChoicesOf files (file name) = Then (Reads files name choices_limit) (λ bytes. Gives (listed_word bytes))
