-- The words of `check FILE`, `dis FILE` and `debug FILE`.
use Rattle.std.specs.Prelude.{List, codes, Option, option_map}
use Rattle.clap.specs.Walk.{Row, Text, first_of}
use Rattle.alpha_request.specs.declared.request.ImageCommand.{ImageCommand}
use Rattle.alpha_request.specs.declared.request.ImageCommand.TheVariants.{Check, Dis, Debug}
use Rattle.alpha_request.specs.Command.{Command, of_image}
use Rattle.alpha_request.specs.Rules.{file_app}
use Rattle.alpha_request.specs.Spoken.{Spoken}
use Rattle.alpha_request.specs.AsksBy.{AsksBy}

-- the word by which each is called
abbrev pub word_of : ImageCommand → Text
word_of Check = codes "check"
word_of Dis = codes "dis"
word_of Debug = codes "debug"

abbrev pub of_image_of_rows : ImageCommand → List Row → Option Command
of_image_of_rows command rows = option_map (of_image command) (first_of (codes "file") rows)

abbrev pub spoken : ImageCommand → Spoken
spoken command = record { app = file_app; made = of_image_of_rows command }

-- words that ask for it
abbrev pub AsksOfImage : ImageCommand → List Text → Text → Type 0
AsksOfImage command words file = AsksBy (word_of command) (spoken command) (of_image command file) words
