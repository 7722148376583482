-- What a request asks for, with the bytes of its texts.
use Rattle.std.specs.Prelude.{ℕ, List, map}
use Rattle.alpha_request.specs.declared.request.Request.{Request}
use Rattle.alpha_request.specs.declared.request.Request.TheVariants.{OfImage, Make, Link, Replay, Record, Run}
use Rattle.alpha_request.specs.declared.request.Request.TheVariants.{RunImprecise, Trial}
use Rattle.alpha_request.specs.declared.files.FileNames.{FileNames}
use Rattle.alpha_request.specs.Options.{origin_of}
use Rattle.alpha_request.specs.Command.{Command, of_image, make, link, replay, record_run, run, imprecise, trial}

-- the bytes of the names
abbrev pub names_of : FileNames → List (List ℕ)
names_of files = map (λ name. name.now) files.names.items

abbrev pub command_of : Request → Command
command_of (OfImage what file) = of_image what file.now
command_of (Make what file out) = make what file.now out.now
command_of (Link entry out files) = link entry.now out.now (names_of files)
command_of (Replay file journal) = replay file.now journal.now
command_of (Record options choices force file out) = record_run options (origin_of choices) force file.now out.now
command_of (Run options file) = run options file.now
command_of (RunImprecise options choices force file) = imprecise options (origin_of choices) force file.now
command_of (Trial blocks) = trial blocks
