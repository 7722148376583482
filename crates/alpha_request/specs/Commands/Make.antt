-- The words of `asm FILE OUT`, `fix FILE OUT` and `module FILE OUT`.
use Rattle.std.specs.Prelude.{List, codes, Option, option_map}
use Rattle.std.specs.Option.{option_and_then}
use Rattle.clap.specs.Walk.{Row, Text, first_of}
use Rattle.clap.specs.Simple.{App, with_rule}
use Rattle.alpha_request.specs.declared.request.SourceCommand.{SourceCommand}
use Rattle.alpha_request.specs.declared.request.SourceCommand.TheVariants.{Asm, Fix, Module}
use Rattle.alpha_request.specs.Command.{Command, make}
use Rattle.alpha_request.specs.Rules.{word, file_app}
use Rattle.alpha_request.specs.Spoken.{Spoken}
use Rattle.alpha_request.specs.AsksBy.{AsksBy}

-- the word by which each is called
abbrev pub word_of : SourceCommand → Text
word_of Asm = codes "asm"
word_of Fix = codes "fix"
word_of Module = codes "module"

abbrev pub app : App
app = with_rule file_app (word (codes "out"))

abbrev pub make_of_rows : SourceCommand → List Row → Option Command
make_of_rows command rows =
    option_and_then (λ file. option_map (make command file) (first_of (codes "out") rows))
    (first_of (codes "file") rows)

abbrev pub spoken : SourceCommand → Spoken
spoken command = record { app = app; made = make_of_rows command }

-- words that ask for it
abbrev pub AsksToMake : SourceCommand → List Text → Text → Text → Type 0
AsksToMake command words file out = AsksBy (word_of command) (spoken command) (make command file out) words
