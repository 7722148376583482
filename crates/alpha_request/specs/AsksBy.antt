-- Words that ask for a command, by what is said of the words of this command alone.
use Rattle.std.specs.Prelude.{◌≡◌, List, ◌∷◌, Some}
use Rattle.clap.specs.Walk.{Row, Text}
use Rattle.alpha_request.specs.Command.{Command}
use Rattle.alpha_request.specs.Matched.{matches_on}
use Rattle.alpha_request.specs.Spoken.{Spoken}

-- The first word is the command's name, clap finds no fault in the words by its definition of the command, and its
-- matches make the command.
pub record AsksBy (name : Text) (spoken : Spoken) (command : Command) (words : List Text) : Type 0 where
  pub rest : List Text
  pub named : words ≡ name ∷ rest
  pub rows : List Row
  pub matches : matches_on spoken.app words ≡ Some rows
  pub makes : spoken.made rows ≡ Some command
