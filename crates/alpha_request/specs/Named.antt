-- The word by which each command is called.
use Rattle.std.specs.Prelude.{codes}
use Rattle.clap.specs.Walk.{Text}
use Rattle.alpha_request.specs.declared.name.Name.{Name}
use Rattle.alpha_request.specs.declared.name.Name.TheVariants as names
use Rattle.alpha_request.specs.Command.{Command, of_image, make, link, replay, record_run, run, imprecise, trial}
use Rattle.alpha_request.specs.Commands.OfImage as images
use Rattle.alpha_request.specs.Commands.Make as makings

abbrev pub word_of : Name → Text
word_of (names.OfImage what) = images.word_of what
word_of (names.Make what) = makings.word_of what
word_of names.Link = codes "link"
word_of names.Replay = codes "replay"
word_of names.Record = codes "record"
word_of names.Run = codes "run"
word_of names.Trial = codes "trial"

-- the name of a command
abbrev pub name_in : Command → Name
name_in (of_image what file) = names.OfImage what
name_in (make what file out) = names.Make what
name_in (link entry out files) = names.Link
name_in (replay file journal) = names.Replay
name_in (record_run options choices force file out) = names.Record
name_in (run options file) = names.Run
name_in (imprecise options choices force file) = names.Run
name_in (trial blocks) = names.Trial
