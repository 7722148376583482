-- What words ask for. The first is the name of a command. The others are read by the definition that the crate clap has
-- of that command, and then by the product's own rules.
use Rattle.std.specs.Prelude.{List, [], ◌∷◌, codes, Option, Some, None, if◌then◌else◌}
use Rattle.std.specs.Option.{option_and_then}
use Rattle.std.specs.Str.{bytes_eq}
use Rattle.clap.specs.Walk.{Row, Text}
use Rattle.clap.specs.Simple.{App}
use Rattle.alpha_request.specs.declared.request.ImageCommand.TheVariants as images
use Rattle.alpha_request.specs.declared.request.SourceCommand.TheVariants as sources
use Rattle.alpha_request.specs.declared.name.Name.{Name}
use Rattle.alpha_request.specs.declared.name.Name.TheVariants as names
use Rattle.alpha_request.specs.Command.{Command}
use Rattle.alpha_request.specs.Commands.{spoken}
use Rattle.alpha_request.specs.Matched.{matches_on}

-- the command that a word names
abbrev pub name_of : Text → Option Name
name_of word =
    if bytes_eq word (codes "check") then Some (names.OfImage images.Check)
    else if bytes_eq word (codes "dis") then Some (names.OfImage images.Dis)
    else if bytes_eq word (codes "asm") then Some (names.Make sources.Asm)
    else if bytes_eq word (codes "fix") then Some (names.Make sources.Fix)
    else if bytes_eq word (codes "module") then Some (names.Make sources.Module)
    else if bytes_eq word (codes "link") then Some names.Link
    else if bytes_eq word (codes "replay") then Some names.Replay
    else if bytes_eq word (codes "record") then Some names.Record
    else if bytes_eq word (codes "run") then Some names.Run
    else if bytes_eq word (codes "debug") then Some (names.OfImage images.Debug)
    else if bytes_eq word (codes "trial") then Some names.Trial else None

-- what clap is told of a named command, and the command that its matches make
abbrev pub app_of_name : Name → App
app_of_name name = (spoken name).app

abbrev pub command_in : Name → List Row → Option Command
command_in name = (spoken name).made

-- what words whose first one has this name ask for
unfoldable pub asked_as : Name → List Text → Option Command
asked_as name words = option_and_then (command_in name) (matches_on (app_of_name name) words)

-- what words ask for
abbrev pub asked : List Text → Option Command
asked [] = None
asked (first ∷ rest) = option_and_then (λ name. asked_as name (first ∷ rest)) (name_of first)
